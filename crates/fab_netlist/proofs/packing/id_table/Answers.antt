use Rattle.std.proofs.Common.{rules}
use Rattle.fab_netlist.proofs.Stepping.{inputs_below}
use Rattle.fab_netlist.proofs.Noting.{place_table_length}
use Rattle.fab_netlist.proofs.Packs.{few_inputs}
use Rattle.fab_netlist.proofs.packing.id_table.Goals as goal

pub place_table-requires-clause-below : goal.place_table-requires-clause-below
place_table-requires-clause-below c = inputs_below c.args.netlist.now c.requires.wired _ _ (search rules) (search rules)

pub place_table-requires-clause-few : goal.place_table-requires-clause-few
place_table-requires-clause-few c = few_inputs c.args.netlist.now c.requires.wired _ (search rules)

pub joined_tables-requires : goal.joined_tables-requires
joined_tables-requires c = search (rules, place_table_length)
