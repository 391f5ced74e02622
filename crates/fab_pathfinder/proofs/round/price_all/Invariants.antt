use Rattle.std.proofs.Common.{◌≡◌, ℕ, ◌+◌, ◌*◌, ◌<◌, slice_index}
use Rattle.fab_astar.specs.Tables.{AreTables, count_of, price_of, users_of}
use Rattle.fab_pathfinder.proofs.round.price_all.Given as goal

abbrev pub invariant-loop-at : goal.invariant-loop-at
invariant-loop-at l = record {
  tables : AreTables l.tables;
  count : count_of l.tables ≡ count_of l.fn.tables;
  users : (w : ℕ) → users_of l.tables w ≡ users_of l.fn.tables w;
  priced : (w : ℕ) → w < l.at → price_of l.tables w ≡ (1 + slice_index l.past w) * (1 + l.round * users_of l.fn.tables w);
}
