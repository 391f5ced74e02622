use Rattle.std.proofs.Common.{List, sym, ◌∙◌, subst, arith}
use Rattle.fab_implementation.specs.Plain.{Pad}
use Rattle.fab_place.proofs.Constrained.{AreKept, constraints_more}
use Rattle.fab_place.proofs.Linked.{take_past}
use Rattle.fab_place.proofs.constraints.constraints_of.Goals as goal

pub loop-pad-preserved : goal.loop-pad-preserved
loop-pad-preserved c =
    constraints_more c.args.fixed.now c.loop-pad.pad-index c.loop-pad.constraints.entries c.insert.new.self.entries c.into_vec.result c.pad-item.result c.requires (c.loop-pad-test.true, sym c.pad-item.is)
    (c.into_vec.ensures ∙ c.in_ok-copy.ensures) c.in_ok-insert.ensures.entries c.loop-pad.invariant

pub returns : goal.returns
returns c =
    subst (λ (pads : List Pad). AreKept pads c.loop-pad.constraints.entries) (take_past c.loop-pad.pad-index c.args.fixed.now (omega (arith, c.loop-pad-test.false))) c.loop-pad.invariant
