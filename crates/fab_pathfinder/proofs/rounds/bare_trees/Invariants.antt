use Rattle.std.proofs.Common.{◌≡◌, [], length}
use Rattle.std.specs.List.{All}
use Rattle.fab_pathfinder.specs.declared.tree.Tree.{Tree}
use Rattle.fab_pathfinder.proofs.rounds.bare_trees.Given as goal

abbrev pub invariant-loop : goal.invariant-loop
invariant-loop l = record {
  count : length l.trees.items ≡ l.counter;
  bare : All (λ (tree : Tree). tree.nodes.items ≡ []) l.trees.items;
  walks : All (λ (tree : Tree). tree.lengths.items ≡ []) l.trees.items;
}
