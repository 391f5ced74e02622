use Rattle.std.proofs.Common.{◌≡◌, length, take}
use Rattle.fab_timing.specs.inner.Adding.{Adds, AddedBy}
use Rattle.fab_timing.specs.inner.Passes.{HasStep, IsTreeStep}
use Rattle.fab_timing.proofs.steps.put_trees.Given as goal

abbrev pub invariant-loop-tree : goal.invariant-loop-tree
invariant-loop-tree l = record {
  len : length l.before.items ≡ length l.fn.before.items;
  added : Adds (AddedBy (IsTreeStep l.fabric) (take l.tree-index l.trees)) (HasStep l.fn.before.items) (HasStep l.before.items);
}
