use Rattle.std.proofs.Common.{◌≡◌, ℕ, [], length, slice_index_or, map}
use Rattle.fab_astar.proofs.queue.empty_buckets.Given as goal

abbrev pub invariant-loop : goal.invariant-loop
invariant-loop l = record {
  len : length l.buckets.items ≡ l.counter;
  empty : (k : ℕ) → slice_index_or (map (λ bucket. bucket.items) l.buckets.items) k [] ≡ [];
}
