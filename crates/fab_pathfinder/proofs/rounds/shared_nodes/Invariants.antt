use Rattle.std.proofs.Common.{ℕ, ◌<◌, ◌≤◌, IfSome, IfNone}
use Rattle.fab_astar.specs.Tables.{users_of}
use Rattle.fab_pathfinder.proofs.rounds.shared_nodes.Given as goal

abbrev pub invariant-loop-node : goal.invariant-loop-node
invariant-loop-node l = record {
  few : l.shared.count ≤ l.node;
  found : IfSome l.shared.least (λ w. 2 ≤ users_of l.tables w);
  least : IfSome l.shared.least (λ w. (v : ℕ) → v < w → users_of l.tables v ≤ 1);
  none : IfNone l.shared.least ((w : ℕ) → w < l.node → users_of l.tables w ≤ 1);
}
