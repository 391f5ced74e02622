-- The state of a legal implementation stands in the text of its fabric.
use Rattle.std.specs.Prelude.{All, List}
use Rattle.fab_syntax.specs.Plain.{PlainModule}
use Rattle.fab_model.specs.Grid.{PlainFabric}
use Rattle.fab_fabric.specs.Fabric.{IsFabric, AreTiles}
use Rattle.fab_netlist.specs.Packed.{PlainPacked}
use Rattle.fab_implementation.specs.Plain.{Pad, PlainImplementation}
use Rattle.fab_legal.specs.Legal.{IsLegal}
use Rattle.fab_fabric_text_defs.specs.Texts.{IsFabricText}
use Rattle.fab_points_laws.specs.fab_use_defs_Registers.{design_state}
use Rattle.fab_state_points.specs.Entries.{entries_of, HasEntry}
use Rattle.fab_state_points.specs.Standing.{HasStream}

-- the two clocks and the inputs that carry words
abbrev pub FabricTextsHaveStreams : Type 0
FabricTextsHaveStreams = (fabric : PlainFabric) (text : List PlainModule) → IsFabricText fabric text → HasStream text

-- a port of the top for each port of the design, and a flip-flop for each of its cells that has a latch
abbrev pub LegalStatesHaveEntries : Type 0
LegalStatesHaveEntries =
    (fabric : PlainFabric) (text : List PlainModule) (packed : PlainPacked) (fixed : List Pad) (implementation : PlainImplementation) → IsFabric fabric → AreTiles fabric →
    IsFabricText fabric text → IsLegal fabric packed fixed implementation → All (HasEntry text) (entries_of (design_state packed implementation))
