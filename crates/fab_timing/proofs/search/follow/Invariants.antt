use Rattle.std.proofs.Common.{sum_by}
use Rattle.fab_timing.specs.inner.Search.{IsSearch, StaysMet, turns_of}
use Rattle.fab_timing.proofs.search.follow.Given as goal

abbrev pub invariant-loop-node : goal.invariant-loop-node
invariant-loop-node l = record {
  search_is : IsSearch l.steps l.marks l.sums l.path.items;
  met : StaysMet l.fn.marks l.marks;
}

abbrev pub decreases-loop-node : goal.decreases-loop-node
decreases-loop-node l = sum_by turns_of l.marks
