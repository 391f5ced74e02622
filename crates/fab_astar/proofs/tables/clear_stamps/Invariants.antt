use Rattle.std.proofs.Common.{◌≡◌, ℕ, ◌<◌, length, map, slice_index}
use Rattle.fab_astar.specs.declared.tables.Node.{Node}
use Rattle.fab_astar.proofs.tables.clear_stamps.Given as goal

abbrev pub invariant-loop-at : goal.invariant-loop-at
invariant-loop-at l = record {
  count : length l.nodes.items ≡ length l.fn.nodes.items;
  price : map (λ (n : Node). n.price) l.nodes.items ≡ map (λ (n : Node). n.price) l.fn.nodes.items;
  users : map (λ (n : Node). n.users) l.nodes.items ≡ map (λ (n : Node). n.users) l.fn.nodes.items;
  trees : map (λ (n : Node). n.tree) l.nodes.items ≡ map (λ (n : Node). n.tree) l.fn.nodes.items;
  clear : (k : ℕ) → k < l.at → slice_index (map (λ (n : Node). n.stamp) l.nodes.items) k ≡ 0;
}
