use Rattle.std.proofs.Common.{◌≡◌, length, take}
use Rattle.fab_timing.specs.inner.Adding.{Adds, AddedBy}
use Rattle.fab_timing.specs.inner.Passes.{HasStep, IsEdgeStep}
use Rattle.fab_timing.proofs.steps.put_edges.Given as goal

abbrev pub invariant-loop-from : goal.invariant-loop-from
invariant-loop-from l = record {
  len : length l.before.items ≡ length l.fn.before.items;
  added : Adds (AddedBy (IsEdgeStep l.fabric) (take l.from-index l.edges)) (HasStep l.fn.before.items) (HasStep l.before.items);
}
