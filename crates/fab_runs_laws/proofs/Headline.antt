-- The bitstream of a legal implementation runs its netlist.
use Rattle.fab_netlist.specs.Packing.{packed}
use Rattle.fab_points_laws.specs.fab_use_defs_Headline.{LegalDesignsRun}
use Rattle.fab_runs_laws.proofs.Setting.{Laws, Setting, cells_made}
use Rattle.fab_runs_laws.proofs.Start.{state_begins}
use Rattle.fab_runs_laws.proofs.CyclesRun.{runs_from}

pub legal_designs_run : Laws → LegalDesignsRun
legal_designs_run laws fabric text netlist fixed implementation bits is are is_text made acyclic legal configures =
    let s : Setting = record {
      laws = laws;
      fabric = fabric;
      text = text;
      netlist = netlist;
      fixed = fixed;
      implementation = implementation;
      bits = bits;
      is = is;
      are = are;
      is_text = is_text;
      made = made;
      acyclic = acyclic;
      legal = legal;
      configures = configures;
    } in
    let loads = laws.loads fabric text is is_text in
    record {
      exist = laws.declared fabric text (packed netlist) fixed implementation is are is_text (cells_made s) legal;
      once = loads.runs;
      writable = (loads.loads bits).writable;
      runs = λ moments held after start writes run same.
          runs_from s start (laws.goes fabric text bits after start is is_text ((loads.loads bits).configures moments held after writes run) same);
      begins = state_begins fabric netlist fixed implementation made legal;
    }
