-- A text that is loaded with a legal implementation settles under every interleaving.
use Rattle.std.proofs.Common.{length, refl}
use Rattle.fab_equations.specs.Instances as instances
use Rattle.fab_equations.proofs.Points.{declared_are_points}
use Rattle.fab_netlist.specs.Packing.{packed}
use Rattle.fab_runs_laws.specs.fab_use_defs_Headline.{DesignPoints}
use Rattle.fab_runs_laws.proofs.Setting.{Laws, Setting, cells_made}
use Rattle.fab_settling_laws.specs.Blocks.{HasAtMost}
use Rattle.fab_settling_laws.specs.Settling.{LegalDesignsSettle}
use Rattle.fab_settling_laws.proofs.EachCycle.{settles_from}

pub legal_designs_settle : Laws → LegalDesignsSettle
legal_designs_settle laws fabric text netlist fixed implementation bits is are is_text made acyclic legal configures =
    let s : Setting = record {
      laws = laws;
      fabric = fabric;
      text = text;
      netlist = netlist;
      fixed = fixed;
      implementation = implementation;
      bits = bits;
      is = is;
      are = are;
      is_text = is_text;
      made = made;
      acyclic = acyclic;
      legal = legal;
      configures = configures;
    } in
    let loads = (laws.loads fabric text is is_text).loads bits in
    let points = instances.points text in
    let declared = laws.declared fabric text (packed netlist) fixed implementation is are is_text (cells_made s) legal in
    let all : HasAtMost (DesignPoints fabric text netlist implementation) (length points) =
    record { points = points; all = λ p design. declared_are_points text is_text.sound p (declared p design); as_many = refl } in
    record {
      counted = (length points, all);
      from = λ moments held after start count writes run same rest most.
          settles_from s count most start
          (record { rest = rest; configured = laws.goes fabric text bits after start.held is is_text (loads.configures moments held after writes run) same });
    }
