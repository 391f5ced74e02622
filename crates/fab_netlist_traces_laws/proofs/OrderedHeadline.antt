-- An ordered simulation of a legal implementation shows a run of its netlist.
use Rattle.fab_meaning.specs.Loaded.{LoadedPointsStay}
use Rattle.fab_solutions_laws.specs.Laws.{DriversGrow, DriversFit}
use Rattle.std.proofs.Common.{map}
use Rattle.fab_bits.specs.Bits.{digits}
use Rattle.fab_frames.specs.Stream.{stream}
use Rattle.fab_netlist.proofs.Wired.{wired}
use Rattle.fab_netlist_traces_laws.proofs.fab_runs_laws_Setting.{Laws, Setting}
use Rattle.fab_ordering_laws.proofs.Cycles.{start_ready}
use Rattle.fab_netlist_traces_laws.specs.SimulatedDesigns.{initial_latches}
use Rattle.fab_netlist_traces_laws.proofs.Known.{KnownLaws}
use Rattle.fab_netlist_traces_laws.specs.OrderedLaws.{LegalDesignsSimulateInOrder}
use Rattle.fab_netlist_traces_laws.proofs.OrderedStart.{holds_at_start}
use Rattle.fab_netlist_traces_laws.proofs.OrderedCycles.{state, text_setting, IsReadyFor, cycles_show}

pub legal_designs_simulate_in_order : Laws → KnownLaws → LoadedPointsStay → DriversGrow → DriversFit → LegalDesignsSimulateInOrder
legal_designs_simulate_in_order laws known stay grow fit fabric text netlist fixed implementation bits is are is_text narrow made acyclic legal configures
    draws lines shown simulation =
    let s : Setting = record {
      laws = laws;
      fabric = fabric;
      text = text;
      netlist = netlist;
      fixed = fixed;
      implementation = implementation;
      bits = bits;
      is = is;
      are = are;
      is_text = is_text;
      made = made;
      acyclic = acyclic;
      legal = legal;
      configures = configures;
    } in
    let run = (laws.one_run netlist (wired made) acyclic (initial_latches netlist) lines).0 in
    let first = simulation.start in
    let at : IsReadyFor s known stay grow fit narrow draws first (initial_latches netlist) = record {
      ready = start_ready (text_setting s known stay grow fit narrow) (state s known stay grow fit narrow) draws (map (digits 32) (stream fabric bits)) first
          simulation.starts;
      quiet = simulation.starts.quiet;
      holds = holds_at_start s known draws first simulation.starts;
    } in
    let shows = cycles_show s known stay grow fit narrow draws first simulation.last lines shown simulation.cycles (initial_latches netlist) run.0 run.1 at in
    record { nows = run.0; run = run.1; shows = shows.0; settles = shows.1; right = shows.2 }
