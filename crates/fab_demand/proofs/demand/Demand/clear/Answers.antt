use Rattle.std.proofs.Common.{length}
use Rattle.fab_demand.specs.Search.{asked_of}
use Rattle.fab_demand.proofs.Blank.{blank_clear}
use Rattle.fab_demand.proofs.demand.Demand.clear.Goals as goal

pub returns-clause-clear : goal.returns-clause-clear
returns-clause-clear c = blank_clear (length c.self.inside.search.leads.items) (asked_of c.clear.new.self) c.clear.ensures.blank c.clear.ensures.keeping.whole
