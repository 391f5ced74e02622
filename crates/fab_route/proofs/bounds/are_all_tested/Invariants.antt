use Rattle.std.proofs.Common.{◌<◌, ◌*◌, ℕ, length}
use Rattle.fab_route.specs.inner.Guided.{AreTested}
use Rattle.fab_route.proofs.bounds.are_all_tested.Given as goal

abbrev pub invariant-loop-table : goal.invariant-loop-table
invariant-loop-table l = (table : ℕ) → table < l.table → AreTested l.entries l.window l.hops.items (table * l.size) (length l.hops.items)
