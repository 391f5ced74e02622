use Rattle.fab_demand.specs.Search.{asked_of}
use Rattle.fab_demand.proofs.Beside.{part_asked}
use Rattle.fab_demand.proofs.search.Search.span_of.Goals as goal

pub returns-then-part : goal.returns-then-part
returns-then-part c =
    part_asked c.args.network.now.trees.items (asked_of c.args.self.now) c.args.source c.in-Some.part c.all_of.result c.in-Some.ensures c.if-part.true c.all_of.ensures
