use Rattle.fab_network.specs.Passes.{kept_tern}
use Rattle.fab_demand.specs.Asked.{AsksMore}
use Rattle.fab_demand.specs.Search.{asked_of, unset_count, IsResting, IsSearching}
use Rattle.fab_demand.proofs.search.Search.ask_source.Given as goal

abbrev pub invariant-needs : goal.invariant-needs
invariant-needs l = record {
  searching : IsSearching l.network l.clock (kept_tern l.given) l.self;
  resting : IsResting l.self;
  more : AsksMore (asked_of l.initial.self) (asked_of l.self);
}

abbrev pub decreases-needs : goal.decreases-needs
decreases-needs l = unset_count l.self.marks.items
