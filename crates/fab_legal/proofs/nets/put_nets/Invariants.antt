use Rattle.std.proofs.Common.{◌≡◌, map, take}
use Rattle.fab_legal.specs.Turns.{FirstAreRight}
use Rattle.fab_legal.specs.Nets.{IsRightNet}
use Rattle.fab_legal.specs.inner.Roots.{tree_number}
use Rattle.fab_legal.proofs.nets.put_nets.Given as goal

abbrev pub invariant-loop-tree : goal.invariant-loop-tree
invariant-loop-tree l = record {
  numbers : l.numbers.keys ≡ map (tree_number l.placed) (take l.tree-index l.implementation.trees);
  right : FirstAreRight (IsRightNet l.fabric l._packed l.implementation) l.implementation.trees l.tree-index;
}
