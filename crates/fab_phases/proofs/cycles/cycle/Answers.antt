use Rattle.std.proofs.Common.{refl}
use Rattle.fab_network.proofs.Forming.{no_forms}
use Rattle.fab_phases.proofs.cycles.cycle.Goals as goal

pub cycle_by-requires-clause-forms : goal.cycle_by-requires-clause-forms
cycle_by-requires-clause-forms c =
    no_forms c.args.network.now.trees.items c.args.network.now.drives.items c.args.demand.now.own c.args.demand.now.leads c.args.demand.now.terns _ refl
