use Rattle.std.proofs.Common.{get_or}
use Rattle.fab_implementation.specs.Plain.{Edge}
use Rattle.fab_legal.specs.Nets.{IsRightStep}
use Rattle.fab_legal.proofs.Lists.{at_default, right_more}
use Rattle.fab_legal.proofs.steps.wrong_step.Goals as goal

pub loop-place-preserved : goal.loop-place-preserved
loop-place-preserved c =
    let none : Edge = (record { 0 = 0 }, record { 0 = 0 }) in
    right_more (IsRightStep c.args.fabric.now) c.args.edges.now c.loop-place.place (get_or c.args.edges.now c.loop-place.place none) c.loop-place.invariant
    (at_default c.args.edges.now c.loop-place.place none c.loop-place-test.true) (c.is_step.ensures.0 c.if-not-is_step.false)
