use Rattle.std.proofs.Common.{◌≡◌, ◌<◌, ℕ, [], true}
use Rattle.fab_timing.specs.inner.Search.{IsSearch, is_settled, mark_at}
use Rattle.fab_timing.proofs.search.settle_each.Given as goal

abbrev pub invariant-loop-node : goal.invariant-loop-node
invariant-loop-node l = record {
  empty : l.path.items ≡ [];
  search_is : IsSearch l.steps l.marks l.sums [];
  settled : (place : ℕ) → place < l.node → is_settled (mark_at l.marks place) ≡ true;
}
