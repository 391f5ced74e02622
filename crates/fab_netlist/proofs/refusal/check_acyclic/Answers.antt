use Rattle.std.proofs.Common.{sym, subst}
use Rattle.fab_netlist.specs.Plain.{PlainNetlist}
use Rattle.fab_netlist.specs.WellMade.{IsWired}
use Rattle.fab_netlist.proofs.Wired.{wired}
use Rattle.fab_netlist.proofs.refusal.check_acyclic.Goals as goal

pub fault_of-requires-clause-wired : goal.fault_of-requires-clause-wired
fault_of-requires-clause-wired c = subst (λ (netlist : PlainNetlist). IsWired netlist) (sym c.parts.ensures) (wired c.is_well_made.ensures)
