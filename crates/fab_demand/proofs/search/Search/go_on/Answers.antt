use Rattle.fab_network.specs.Passes.{kept_tern}
use Rattle.fab_demand.specs.Search.{asked_of}
use Rattle.fab_demand.proofs.Asking.{asks_both, rests}
use Rattle.fab_demand.proofs.Lists.{none_last}
use Rattle.fab_demand.proofs.search.Search.go_on.Goals as goal

pub waiting-preserved : goal.waiting-preserved
waiting-preserved c = record {
  searching = c.go_by.ensures.searching;
  more = asks_both (asked_of c.args.self.now) (asked_of c.waiting.self) (asked_of c.go_by.new.self) c.waiting.invariant.more c.go_by.ensures.more;
}

pub returns-clause-resting : goal.returns-clause-resting
returns-clause-resting c =
    rests c.args.network.now c.args.clock (kept_tern c.args.given.now) c.waiting.self c.waiting.invariant.searching
    (none_last c.waiting.self.stack.items c.in_default.ensures)
