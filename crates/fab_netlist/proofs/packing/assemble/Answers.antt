use Rattle.std.proofs.Common.{rules, arith, length, ◌∙◌, ap, sym, subst}
use Rattle.fab_netlist.specs.inner.Survey.{PlainSurvey}
use Rattle.fab_netlist.specs.inner.Places.{IsFor, nets_by}
use Rattle.fab_netlist.proofs.Stepping.{inputs_below, outputs_below}
use Rattle.fab_netlist.proofs.Packs.{is_for, nets_below, few_nets, table_length}
use Rattle.fab_netlist.proofs.packing.assemble.Goals as goal

pub id_table-requires-clause-below : goal.id_table-requires-clause-below
id_table-requires-clause-below c = nets_below c.args.netlist.now c.requires.wired _ (c.requires.nets ∙ ap (nets_by c.args.netlist.now) c.requires.survey)

pub id_table-requires-clause-few : goal.id_table-requires-clause-few
id_table-requires-clause-few c = omega (arith, few_nets c.args.netlist.now c.requires.wired, ap length (c.requires.nets ∙ ap (nets_by c.args.netlist.now) c.requires.survey))

pub cells-requires-clause-survey : goal.cells-requires-clause-survey
cells-requires-clause-survey c = subst (λ (survey : PlainSurvey). IsFor c.args.netlist.now survey) (sym c.requires.survey) (is_for c.args.netlist.now c.requires.wired)

pub cells-requires-clause-table : goal.cells-requires-clause-table
cells-requires-clause-table c = search (rules, table_length)

pub names-requires : goal.names-requires
names-requires c = inputs_below c.args.netlist.now c.requires.wired _ _ (search rules) (search rules)

pub shown-requires-clause-table : goal.shown-requires-clause-table
shown-requires-clause-table c = search (rules, table_length)

pub shown-requires-clause-below : goal.shown-requires-clause-below
shown-requires-clause-below c = outputs_below c.args.netlist.now c.requires.wired _ _ (search rules) (search rules)
