use Rattle.std.proofs.Common.{arith}
use Rattle.std.proofs.lemmas.List.{nil_from_length}
use Rattle.fab_network.proofs.Forming.{no_forms}
use Rattle.fab_sim.proofs.forming.cycle_in_run.Goals as goal

pub returns-then-forms-eq0-clause-forms : goal.returns-then-forms-eq0-clause-forms
returns-then-forms-eq0-clause-forms c =
    no_forms c.args.network.now.trees.items c.args.network.now.drives.items c.cycle.new.demand.own c.cycle.new.demand.leads c.cycle.new.demand.terns c.args.forms.now
    (nil_from_length c.args.forms.now (omega (arith, c.if-forms-eq0.true)))
