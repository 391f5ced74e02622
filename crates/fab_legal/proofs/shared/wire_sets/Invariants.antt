use Rattle.std.proofs.Common.{take}
use Rattle.fab_legal.specs.inner.Tables.{key_lists, HaveWires}
use Rattle.fab_legal.proofs.shared.wire_sets.Given as goal

abbrev pub invariant-loop-tree : goal.invariant-loop-tree
invariant-loop-tree l = HaveWires (take l.tree-index l.trees) (key_lists l.sets.items)
