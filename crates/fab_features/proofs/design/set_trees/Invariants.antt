use Rattle.std.proofs.Common.{take}
use Rattle.fab_fabric.specs.Bits.{AreBitsOf, plain_bits}
use Rattle.fab_features.specs.inner.Adding.{Adds, SomeOf, IsTreeOne}
use Rattle.fab_features.proofs.design.set_trees.Given as goal

-- the trees so far
abbrev pub invariant-loop-tree : goal.invariant-loop-tree
invariant-loop-tree l = record {
  are : AreBitsOf l.fabric l.bits;
  adds : Adds (plain_bits l.fn.bits) (plain_bits l.bits) (SomeOf (IsTreeOne l.fabric) (take l.tree-index l.trees));
}
