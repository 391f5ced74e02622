use Rattle.std.proofs.Common.{◌||◌, None, get_or, sym, ◌∙◌, ap, arith}
use Rattle.fab_place.specs.inner.Starts.{is_number}
use Rattle.fab_place.proofs.Orders.{taken_more}
use Rattle.fab_place.proofs.start.taken_pads.Goals as goal

pub loop-pad-preserved : goal.loop-pad-preserved
loop-pad-preserved c = record {
  count = c.mark.ensures.count ∙ c.loop-pad.invariant.count;
  taken = λ pad low.
      c.mark.ensures.marks pad (omega (arith, low, c.loop-pad.invariant.count))
      ∙ ap (λ before. before || is_number pad (get_or c.args.constrained.now c.loop-pad.pad-index None)) (c.loop-pad.invariant.taken pad low)
      ∙ sym (taken_more c.args.constrained.now c.loop-pad.pad-index pad c.loop-pad-test.true);
}
