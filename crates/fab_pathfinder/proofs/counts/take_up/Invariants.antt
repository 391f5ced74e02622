use Rattle.std.proofs.Common.{◌≡◌, ℕ, ◌+◌, take}
use Rattle.fab_astar.specs.Walks.{has}
use Rattle.fab_astar.specs.Tables.{AreTables, count_of, users_of, is_held}
use Rattle.fab_pathfinder.specs.inner.Prices.{bit, ArePriced}
use Rattle.fab_pathfinder.proofs.counts.take_up.Given as goal

abbrev pub invariant-loop-node : goal.invariant-loop-node
invariant-loop-node l = record {
  tables : AreTables l.tables;
  count : count_of l.tables ≡ count_of l.fn.tables;
  priced : ArePriced l.past l.round l.tables;
  held : (w : ℕ) → is_held l.tables w ≡ has (take l.node-index l.nodes) w;
  users : (w : ℕ) → users_of l.tables w ≡ users_of l.fn.tables w + bit (has (take l.node-index l.nodes) w);
}
