use Rattle.fab_network.specs.Passes.{kept_tern}
use Rattle.fab_demand.specs.Asked.{AsksMore}
use Rattle.fab_demand.specs.Search.{asked_of, IsResting, IsSearching}
use Rattle.fab_demand.proofs.search.Search.ask_rest.Given as goal

abbrev pub invariant-loop-next : goal.invariant-loop-next
invariant-loop-next l = record {
  searching : IsSearching l.network l.clock (kept_tern l.given) l.self;
  resting : IsResting l.self;
  more : AsksMore (asked_of l.initial.self) (asked_of l.self);
}
