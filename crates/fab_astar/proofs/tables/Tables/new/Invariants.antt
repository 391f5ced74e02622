use Rattle.std.proofs.Common.{◌≡◌, ℕ, length, map, slice_index}
use Rattle.fab_astar.specs.declared.tables.Node.{Node}
use Rattle.fab_astar.proofs.tables.Tables.new.Given as goal

abbrev pub invariant-loop : goal.invariant-loop
invariant-loop l = record {
  count : length l.table.items ≡ l.counter;
  users : (k : ℕ) → slice_index (map (λ (n : Node). n.users) l.table.items) k ≡ 0;
  stamps : (k : ℕ) → slice_index (map (λ (n : Node). n.stamp) l.table.items) k ≡ 0;
  trees : (k : ℕ) → slice_index (map (λ (n : Node). n.tree) l.table.items) k ≡ 0;
}
