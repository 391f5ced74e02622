use Rattle.std.proofs.Common.{◌≡◌, ℕ, ◌||◌, take}
use Rattle.fab_astar.specs.Walks.{has}
use Rattle.fab_astar.specs.Tables.{count_of, prices, counts, is_held, AreTables}
use Rattle.fab_astar.proofs.walks.hold_all.Given as goal

abbrev pub invariant-loop-node : goal.invariant-loop-node
invariant-loop-node l = record {
  tables : AreTables l.tables;
  count : count_of l.tables ≡ count_of l.fn.tables;
  price : prices l.tables ≡ prices l.fn.tables;
  users : counts l.tables ≡ counts l.fn.tables;
  held : (w : ℕ) → is_held l.tables w ≡ (is_held l.fn.tables w || has (take l.node-index l.nodes) w);
}
