use Rattle.std.proofs.Common.{◌≡◌, ℕ, ◌<◌, ◌≤◌, [], length, slice_index_or}
use Rattle.fab_astar.specs.Queue.{near}
use Rattle.fab_astar.proofs.queue.Queue.clear.Given as goal

abbrev pub invariant-loop-at : goal.invariant-loop-at
invariant-loop-at l = record {
  many : length (near l.self) ≡ 65536;
  below : (k : ℕ) → k < l.at → slice_index_or (near l.self) k [] ≡ [];
  above : (k : ℕ) → l.self.top ≤ k → slice_index_or (near l.self) k [] ≡ [];
  same_top : l.self.top ≡ l.fn.self.top;
}
