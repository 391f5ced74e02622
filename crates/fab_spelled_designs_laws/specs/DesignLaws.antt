-- What is printed of a design that files spell is read back.
use Rattle.std.specs.Prelude.{◌≡◌, ℕ, All, List, Option}
use Rattle.fab_desk.specs.Files.{Map}
use Rattle.fab_fabric.specs.Fabric.{AreTiles, IsFabric}
use Rattle.fab_model.specs.Grid.{PlainFabric}
use Rattle.fab_netlist.specs.Plain.{PlainNetlist}
use Rattle.fab_netlist.specs.Packing.{packed}
use Rattle.fab_netlist.specs.Resets.{netlist_with}
use Rattle.fab_netlist.specs.WellMade.{IsWellMade}
use Rattle.fab_implementation.specs.Plain.{PlainImplementation, reset_name}
use Rattle.fab_legal.specs.Legal.{IsLegal}
use Rattle.fab_state.specs.Spelled as states
use Rattle.fab_designs.specs.fab_impl_Spelled as texts
use Rattle.fab_fasm.specs.Printing as lines
use Rattle.fab_features.specs.Design.{design_features}
use Rattle.fab_features.specs.fab_use_defs_Registers.{design_state}
use Rattle.fab_designs.specs.Designs.{DesignFiles, PlainDesign, SpellsDesign}

-- a fabric with its tiles, and a netlist that is well made
pub record IsSound (design : PlainDesign) : Type 0 where
  pub fabric : IsFabric design.fabric
  pub tiles : AreTiles design.fabric
  pub netlist : IsWellMade design.netlist

abbrev pub SpelledDesignsAreSound : Type 0
SpelledDesignsAreSound = (files : Map) (names : DesignFiles) (design : PlainDesign) → SpellsDesign files names design → IsSound design

-- The text of an implementation can spell it, where it has the reset port of the netlist; that of its state the state; and each feature of it has a line
-- that can spell it.
pub record IsSpelled (fabric : PlainFabric) (netlist : PlainNetlist) (implementation : PlainImplementation) : Type 0 where
  pub text : implementation.reset ≡ reset_name (packed netlist) → texts.HasSpelling fabric implementation
  pub state : states.HasSpelling (design_state (packed netlist) implementation)
  pub features : All lines.HasSpelling (design_features fabric (packed netlist) implementation)

-- So it is with the netlist of the files, and with the reset port that is named beside them, where one is.
abbrev pub LegalDesignsAreSpelled : Type 0
LegalDesignsAreSpelled =
    (files : Map) (names : DesignFiles) (design : PlainDesign) (reset : Option (List ℕ)) (implementation : PlainImplementation) → SpellsDesign files names design →
    IsLegal design.fabric (packed (netlist_with reset design.netlist)) design.fixed implementation → IsSpelled design.fabric (netlist_with reset design.netlist) implementation
