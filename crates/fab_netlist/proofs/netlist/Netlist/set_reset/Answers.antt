use Rattle.std.proofs.Common.{sym, subst}
use Rattle.fab_netlist.specs.Cycles.{HasNoCycle}
use Rattle.fab_netlist.specs.Plain.{PlainNetlist}
use Rattle.fab_netlist.specs.Resets.{with_reset}
use Rattle.fab_netlist.proofs.Resetting.{no_cycle_again}
use Rattle.fab_netlist.proofs.netlist.Netlist.set_reset.Goals as goal

pub returns-in-Some-clause-acyclic : goal.returns-in-Some-clause-acyclic
returns-in-Some-clause-acyclic c = λ none.
    subst (λ (netlist : PlainNetlist). HasNoCycle (with_reset c.in-Some.place netlist)) (sym c.self.view_is) (no_cycle_again c.in-Some.place c.args.self.now none)
