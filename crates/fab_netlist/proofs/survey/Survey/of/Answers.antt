use Rattle.std.proofs.Common.{rules}
use Rattle.fab_netlist.proofs.Surveying.{taken_small, driven_small, few_taken, few_driven}
use Rattle.fab_netlist.proofs.survey.Survey.of.Goals as goal

pub place_table-requires-clause-below : goal.place_table-requires-clause-below
place_table-requires-clause-below c = taken_small c.args.netlist.now c.requires _ _ (search rules) (search rules)

pub place_table-requires-clause-few : goal.place_table-requires-clause-few
place_table-requires-clause-few c = few_taken c.args.netlist.now c.requires _ (search rules)

pub place_table-requires-2-clause-below : goal.place_table-requires-2-clause-below
place_table-requires-2-clause-below c = driven_small c.args.netlist.now c.requires _ _ (search rules) (search rules)

pub place_table-requires-2-clause-few : goal.place_table-requires-2-clause-few
place_table-requires-2-clause-few c = few_driven c.args.netlist.now c.requires _ (search rules)
