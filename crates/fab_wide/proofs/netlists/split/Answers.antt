use Rattle.std.proofs.Common.{sym, subst}
use Rattle.fab_netlist.specs.Plain.{PlainNetlist}
use Rattle.fab_netlist.specs.Cycles.{HasNoCycle}
use Rattle.fab_netlist.specs.Wide.{RunsAsWith, tabled}
use Rattle.fab_wide.proofs.Whole.{split_is_acyclic, split_runs}
use Rattle.fab_wide.proofs.netlists.split.Goals as goal

pub returns-clause-acyclic : goal.returns-clause-acyclic
returns-clause-acyclic c = λ none. subst (λ (netlist : PlainNetlist). HasNoCycle netlist) (sym c.in_ok-narrowed.ensures)
    (split_is_acyclic c.args.netlist.now c.requires none)

pub returns-clause-runs : goal.returns-clause-runs
returns-clause-runs c = subst (λ (netlist : PlainNetlist). RunsAsWith (tabled c.args.netlist.now) netlist) (sym c.in_ok-narrowed.ensures)
    (split_runs c.args.netlist.now c.requires)
