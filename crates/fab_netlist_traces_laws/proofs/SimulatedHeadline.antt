-- A simulation of a legal implementation shows a run of its netlist.
use Rattle.fab_netlist.proofs.Wired.{wired}
use Rattle.fab_runs_laws.proofs.Setting.{Laws, Setting}
use Rattle.fab_netlist_traces_laws.specs.SimulatedDesigns.{initial_latches}
use Rattle.fab_netlist_traces_laws.specs.SimulatedLaws.{LegalDesignsSimulate}
use Rattle.fab_netlist_traces_laws.proofs.Known.{KnownLaws}
use Rattle.fab_netlist_traces_laws.proofs.SimulatedCycles.{cycles_show}
use Rattle.fab_netlist_traces_laws.proofs.SimulatedStart.{start, base, start_follows, start_ready}

pub legal_designs_simulate : Laws → KnownLaws → LegalDesignsSimulate
legal_designs_simulate laws known fabric text netlist fixed implementation bits is are is_text made acyclic legal configures lines shown simulation =
    let s : Setting = record {
      laws = laws;
      fabric = fabric;
      text = text;
      netlist = netlist;
      fixed = fixed;
      implementation = implementation;
      bits = bits;
      is = is;
      are = are;
      is_text = is_text;
      made = made;
      acyclic = acyclic;
      legal = legal;
      configures = configures;
    } in
    let loaded = simulation.loaded in
    let is_loaded = simulation.is_loaded in
    let run = (laws.one_run netlist (wired made) acyclic (initial_latches netlist) lines).0 in
    let shows = cycles_show s known (start s known loaded is_loaded) simulation.last lines shown simulation.cycles (base s known loaded is_loaded)
    (initial_latches netlist) run.0 run.1
    (start_ready s known loaded is_loaded) (start_follows s known loaded is_loaded) in
    record { nows = run.0; run = run.1; shows = shows.0; knows = shows.1 }
