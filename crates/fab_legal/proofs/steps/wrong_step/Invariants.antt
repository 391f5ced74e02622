use Rattle.fab_legal.specs.Turns.{FirstAreRight}
use Rattle.fab_legal.specs.Nets.{IsRightStep}
use Rattle.fab_legal.proofs.steps.wrong_step.Given as goal

abbrev pub invariant-loop-place : goal.invariant-loop-place
invariant-loop-place l = FirstAreRight (IsRightStep l.fabric) l.edges l.place
