use Rattle.std.proofs.Common.{◌≡◌, true, All, take}
use Rattle.fab_graph.specs.Reach.{is_marked}
use Rattle.fab_graph.specs.inner.Search.{IsSearch}
use Rattle.fab_graph.proofs.reaching.mark_starts.Given as goal

abbrev pub invariant-loop-wire : goal.invariant-loop-wire
invariant-loop-wire l = record {
  search : IsSearch l.graph l.from l.marks.items l.waiting.items;
  marked : All (λ wire. is_marked l.marks.items wire ≡ true) (take l.wire-index l.from);
}
