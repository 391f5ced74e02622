use Rattle.std.proofs.Common.{◌≡◌, ◌↔◌, ℕ, Some, Contains, length, take}
use Rattle.fab_timing.specs.inner.Tables.{sum_at}
use Rattle.fab_timing.proofs.steps.start_table.Given as goal

abbrev pub invariant-loop-node : goal.invariant-loop-node
invariant-loop-node l = record {
  len : length l.table.items ≡ l.count;
  starts : (node units : ℕ) → (sum_at l.table.items node ≡ Some units) ↔ Contains (take l.node-index l.starts) (node, units);
}
