-- Simulations of legal implementations.
use Rattle.std.specs.Prelude.{◌≡◌, Bool, List}
use Rattle.fab_syntax.specs.Plain.{PlainModule}
use Rattle.fab_systems_laws.specs.Ternary.{Tern}
use Rattle.fab_model.specs.Grid.{PlainFabric}
use Rattle.fab_model.specs.Drive.{PlainBits}
use Rattle.fab_fabric.specs.Fabric.{IsFabric, AreTiles}
use Rattle.fab_sound.specs.Narrow.{AreNarrow}
use Rattle.fab_netlist.specs.Plain.{PlainNetlist}
use Rattle.fab_netlist.specs.WellMade.{IsWellMade}
use Rattle.fab_netlist.specs.Cycles.{HasNoCycle}
use Rattle.fab_netlist.specs.Packing.{packed}
use Rattle.fab_implementation.specs.Plain.{Pad, PlainImplementation}
use Rattle.fab_legal.specs.Legal.{IsLegal}
use Rattle.fab_fabric_text_defs.specs.Texts.{IsFabricText}
use Rattle.fab_runs_laws.specs.fab_use_defs_Configuring.{Configures}
use Rattle.fab_netlist_traces_laws.specs.SimulatedDesigns.{SimulatesDesign, ShowsNetlist}

-- In each text of a fabric that is loaded with the bitstream of a legal implementation, what a simulation shows is what the netlist says, whatever is
-- given: the value of an input port that a line leaves out is 0 for both.
abbrev pub LegalDesignsSimulate : Type 0
LegalDesignsSimulate =
    (fabric : PlainFabric) (text : List PlainModule) (netlist : PlainNetlist) (fixed : List Pad) (implementation : PlainImplementation) (bits : PlainBits) →
    IsFabric fabric → AreTiles fabric → IsFabricText fabric text → IsWellMade netlist → HasNoCycle netlist →
    IsLegal fabric (packed netlist) fixed implementation →
    Configures fabric (packed netlist) implementation bits →
    (lines : List (List Bool)) (shown : List (List Tern)) (simulation : SimulatesDesign fabric text netlist implementation bits lines shown) →
    ShowsNetlist fabric text netlist implementation bits lines shown simulation

-- Of such a text, where the widths of its expressions are counted in 64 bits, there is exactly one simulation, by what it shows.
abbrev pub LegalDesignsSimulateOnce : Type 0
LegalDesignsSimulateOnce =
    (fabric : PlainFabric) (text : List PlainModule) (netlist : PlainNetlist) (fixed : List Pad) (implementation : PlainImplementation) (bits : PlainBits) →
    IsFabric fabric → AreTiles fabric → IsFabricText fabric text → AreNarrow text → IsWellMade netlist → IsLegal fabric (packed netlist) fixed implementation →
    (lines : List (List Bool)) →
    ((shown : List (List Tern)) × SimulatesDesign fabric text netlist implementation bits lines shown)
    × ((first second : List (List Tern)) → SimulatesDesign fabric text netlist implementation bits lines first →
    SimulatesDesign fabric text netlist implementation bits lines second → first ≡ second)
