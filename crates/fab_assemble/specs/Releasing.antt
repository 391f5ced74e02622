-- The configuration bits of an implementation release the pads that it leaves alone.
use Rattle.std.specs.Prelude.{List}
use Rattle.std.specs.List.{All}
use Rattle.fab_syntax.specs.Plain.{PlainModule}
use Rattle.fab_model.specs.Grid.{PlainFabric}
use Rattle.fab_model.specs.Drive.{PlainBits}
use Rattle.fab_fabric.specs.Fabric.{IsFabric, AreTiles}
use Rattle.fab_netlist.specs.Plain.{PlainNetlist}
use Rattle.fab_netlist.specs.WellMade.{IsWellMade}
use Rattle.fab_netlist.specs.Cycles.{HasNoCycle}
use Rattle.fab_netlist.specs.Packing.{packed}
use Rattle.fab_implementation.specs.Plain.{Pad, PlainImplementation}
use Rattle.fab_legal.specs.Legal.{IsLegal}
use Rattle.fab_gen_tile.specs.Words.{IsNamed}
use Rattle.fab_frames.specs.Stream.{stream}
use Rattle.fab_settling_laws.specs.fab_fabric_text_defs_Texts.{IsFabricText}
use Rattle.fab_settling_laws.specs.fab_use_defs_Configuring.{Configures}
use Rattle.fab_settling_laws.specs.Released.{ReleasesPads}
use Rattle.fab_features.specs.Naming.{HasPrefixes}
use Rattle.fab_features.specs.Features.{IsBitMapOf}
use Rattle.fab_features.specs.Design.{design_features}

-- The bits are those of the implementation, and those that its features set: where no edge enters an output of a switch matrix, its select bits are 0.
abbrev pub BitMapsReleasePads : Type 0
BitMapsReleasePads =
    (fabric : PlainFabric) (text : List PlainModule) (netlist : PlainNetlist) (fixed : List Pad) (implementation : PlainImplementation) (bits : PlainBits) →
    IsFabric fabric → AreTiles fabric → IsFabricText fabric text → IsWellMade netlist → HasNoCycle netlist →
    IsLegal fabric (packed netlist) fixed implementation → Configures fabric (packed netlist) implementation bits →
    All IsNamed fabric.types → All HasPrefixes fabric.types → IsBitMapOf fabric (design_features fabric (packed netlist) implementation) bits →
    ReleasesPads fabric text netlist implementation (stream fabric bits)
