use Rattle.fab_place.proofs.Boxed.{names_once}
use Rattle.fab_place.proofs.costing.cost.Goals as goal

pub inputs_cost-requires-clause-names : goal.inputs_cost-requires-clause-names
inputs_cost-requires-clause-names c = names_once c.args.fabric.now c.args.packed.now c.args.placed.now c.requires.placed

pub cells_cost-requires-clause-names : goal.cells_cost-requires-clause-names
cells_cost-requires-clause-names c = names_once c.args.fabric.now c.args.packed.now c.args.placed.now c.requires.placed
