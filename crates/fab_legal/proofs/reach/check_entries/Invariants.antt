use Rattle.fab_legal.specs.Turns.{FirstAreRight}
use Rattle.fab_legal.specs.Legal.{HasRightEntries}
use Rattle.fab_legal.proofs.reach.check_entries.Given as goal

abbrev pub invariant-loop-tree : goal.invariant-loop-tree
invariant-loop-tree l = FirstAreRight HasRightEntries l.trees l.tree-index
