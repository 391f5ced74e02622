use Rattle.fab_legal.specs.Turns.{FirstAreRight}
use Rattle.fab_legal.specs.Legal.{HasRightSteps}
use Rattle.fab_legal.proofs.steps.check_steps.Given as goal

abbrev pub invariant-loop-tree : goal.invariant-loop-tree
invariant-loop-tree l = FirstAreRight (HasRightSteps l.fabric) l.trees l.tree-index
