use Rattle.std.proofs.Common.{◌≡◌, true, All}
use Rattle.fab_graph.specs.Reach.{is_marked}
use Rattle.fab_graph.specs.inner.Search.{IsSearch, left_of}
use Rattle.fab_graph.proofs.reaching.search.Given as goal

abbrev pub invariant-turns : goal.invariant-turns
invariant-turns l = record {
  search : IsSearch l.graph l.from l.marks.items l.waiting.items;
  marked : All (λ wire. is_marked l.marks.items wire ≡ true) l.from;
}

abbrev pub decreases-turns : goal.decreases-turns
decreases-turns l = left_of l.marks.items l.waiting.items
