use Rattle.fab_demand.specs.Search.{asked_of}
use Rattle.fab_demand.proofs.Blank.{blank_clear}
use Rattle.fab_demand.proofs.demand.Demand.new.Goals as goal

pub returns-clause-clear : goal.returns-clause-clear
returns-clause-clear c = blank_clear c.args.points (asked_of c.in_ok-search.search) c.in_ok-search.ensures.blank c.in_ok-search.ensures.keeping.whole
