-- Ordered simulations of legal implementations.
use Rattle.std.specs.Prelude.{ℕ, Bool, List}
use Rattle.fab_syntax.specs.Plain.{PlainModule}
use Rattle.fab_model.specs.Grid.{PlainFabric}
use Rattle.fab_model.specs.Drive.{PlainBits}
use Rattle.fab_fabric.specs.Fabric.{IsFabric, AreTiles}
use Rattle.fab_sound.specs.Narrow.{AreNarrow}
use Rattle.fab_netlist.specs.Plain.{PlainNetlist}
use Rattle.fab_netlist.specs.WellMade.{IsWellMade}
use Rattle.fab_netlist.specs.Cycles.{HasNoCycle}
use Rattle.fab_netlist.specs.Packing.{packed}
use Rattle.fab_implementation.specs.Plain.{Pad, PlainImplementation}
use Rattle.fab_legal.specs.Legal.{IsLegal}
use Rattle.fab_fabric_text_defs.specs.Texts.{IsFabricText}
use Rattle.fab_netlist_traces_laws.specs.fab_use_defs_Configuring.{Configures}
use Rattle.fab_netlist_traces_laws.specs.OrderedDesigns.{SimulatesDesignInOrder, ShowsNetlistInOrder}

-- In each text of a fabric that is loaded with the bitstream of a legal implementation, and whose widths are counted in 64 bits, what an ordered simulation
-- shows is what the netlist says, whatever is drawn and given.
abbrev pub LegalDesignsSimulateInOrder : Type 0
LegalDesignsSimulateInOrder =
    (fabric : PlainFabric) (text : List PlainModule) (netlist : PlainNetlist) (fixed : List Pad) (implementation : PlainImplementation) (bits : PlainBits) →
    IsFabric fabric → AreTiles fabric → IsFabricText fabric text → AreNarrow text → IsWellMade netlist → HasNoCycle netlist →
    IsLegal fabric (packed netlist) fixed implementation →
    Configures fabric (packed netlist) implementation bits →
    (draws : ℕ → ℕ) (lines shown : List (List Bool)) (simulation : SimulatesDesignInOrder fabric text netlist implementation bits draws lines shown) →
    ShowsNetlistInOrder fabric text netlist implementation bits draws lines shown simulation
