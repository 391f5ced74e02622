use Rattle.std.proofs.Common.{refl}
use Rattle.fab_network.proofs.Forming.{no_forms}
use Rattle.fab_demand.proofs.demand.Demand.settle.Goals as goal

pub settle_by-requires-clause-forms : goal.settle_by-requires-clause-forms
settle_by-requires-clause-forms c =
    no_forms c.args.network.now.trees.items c.args.network.now.drives.items c.args.self.now.own c.args.self.now.leads c.args.self.now.terns _ refl
