use Rattle.std.proofs.Common.{◌≡◌, ◌+◌, ◌++◌, ◌∷◌, ◌^◌, [], ap, sym, ◌∙◌, arith}
use Rattle.fab_kinds.specs.Pins.{bit_count}
use Rattle.fab_model.specs.declared.tiles.Bel.{Bel}
use Rattle.fab_model.proofs.BelFields.{laid_more, bits_more, sum_is}
use Rattle.fab_model.proofs.fields.bel_fields_of.Goals as goal

pub loop-bel-preserved : goal.loop-bel-preserved
loop-bel-preserved c =
    let l = c.loop-bel in
    let width = c.bits-width.ensures ∙ ap (λ (bel : Bel). bit_count bel.kind) c.bel-item.is in
    let next : c.in_ok-low.low ≡ l.low + c.bits-width.result = sum_is l.low c.bits-width.result c.in_ok-low.low (2 ^ 32) c.checked_add.result c.checked_add.ensures c.in_ok-low.ensures.ok_part in
    record {
      low = omega (arith, next, width, l.invariant.low, bits_more c.args.bels.now l.bel-index c.bel-item.result c.loop-bel-test.true);
      fields =
          c.in_ok-push.ensures.items ∙ (λ j. l.invariant.fields j ++ (l.invariant.low j, width j) ∷ []) ∙ sym (laid_more c.args.bels.now l.bel-index c.bel-item.result c.loop-bel-test.true);
    }
