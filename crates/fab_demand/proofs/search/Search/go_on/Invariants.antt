use Rattle.fab_network.specs.Passes.{kept_tern}
use Rattle.fab_demand.specs.Asked.{AsksMore}
use Rattle.fab_demand.specs.Search.{asked_of, left_of, IsSearching}
use Rattle.fab_demand.proofs.search.Search.go_on.Given as goal

abbrev pub invariant-waiting : goal.invariant-waiting
invariant-waiting l = record {
  searching : IsSearching l.network l.clock (kept_tern l.given) l.self;
  more : AsksMore (asked_of l.initial.self) (asked_of l.self);
}

abbrev pub decreases-waiting : goal.decreases-waiting
decreases-waiting l = left_of l.self
