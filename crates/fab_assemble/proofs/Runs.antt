-- From the parts of an assembly to the headline, as a whole and step by step.
use Rattle.std.proofs.Common.{◌≡◌, ℕ, List, length, Ok, refl, sym, ap, ◌∙◌, subst, arith, le-ltb}
use Rattle.fab_syntax.specs.Plain.{PlainModule}
use Rattle.fab_model.specs.Grid.{PlainFabric}
use Rattle.fab_model.specs.Drive.{PlainBits}
use Rattle.fab_fabric.specs.Fabric.{IsFabric, AreTiles}
use Rattle.fab_frames.specs.Stream.{stream}
use Rattle.fab_netlist.specs.Plain.{PlainNetlist}
use Rattle.fab_netlist.specs.WellMade.{IsWellMade, ports}
use Rattle.fab_netlist.specs.Cycles.{HasNoCycle}
use Rattle.fab_netlist.specs.Packed.{PlainPacked}
use Rattle.fab_netlist.specs.Packing.{works, packed, packing}
use Rattle.fab_implementation.specs.Plain.{Pad, PlainImplementation}
use Rattle.fab_legal.specs.WellMade.{IsWellMadePacked, PackedIsWellMade}
use Rattle.fab_legal.specs.Legal.{IsLegal}
use Rattle.fab_state.specs.Plain.{PlainState}
use Rattle.fab_settling_laws.specs.fab_fabric_text_defs_Texts.{IsFabricText}
use Rattle.fab_settling_laws.specs.fab_use_defs_Registers.{design_state}
use Rattle.fab_settling_laws.specs.fab_use_defs_Configuring.{Configures}
use Rattle.fab_settling_laws.specs.fab_use_defs_Headline.{RunsDesign, LegalDesignsRun}
use Rattle.fab_settling_laws.specs.Settling.{SettlesDesign, LegalDesignsSettle}

-- a netlist is packed where there is a site for each cell and each port
packs : (netlist : PlainNetlist) → packing netlist (length (works netlist)) (length (ports netlist)) ≡ Ok (packed netlist)
packs netlist =
    let cells = length (works netlist) in
    let pads = length (ports netlist) in
    rw (le-ltb cells cells (omega arith), le-ltb pads pads (omega arith)) refl

pub packed_made : (netlist : PlainNetlist) (design : PlainPacked) → PackedIsWellMade → IsWellMade netlist → design ≡ packed netlist → IsWellMadePacked design
packed_made netlist design law made is =
    subst IsWellMadePacked (sym is) (law netlist (length (works netlist)) (length (ports netlist)) (packed netlist) made (packs netlist))

-- what stands when the words of an implementation are made
module _ (fabric : PlainFabric) (text : List PlainModule) (netlist : PlainNetlist) (design : PlainPacked) (fixed : List Pad) (i : PlainImplementation)
    (bits : PlainBits) (words : List ℕ) (is_fabric : IsFabric fabric) (are_tiles : AreTiles fabric) (is_text : IsFabricText fabric text)
    (made : IsWellMade netlist) (no_cycle : HasNoCycle netlist) (is : design ≡ packed netlist) (legal : IsLegal fabric design fixed i)
    (configures : Configures fabric design i bits) (words_are : words ≡ stream fabric bits) where
  packed_legal : IsLegal fabric (packed netlist) fixed i
  packed_legal = subst (λ (p : PlainPacked). IsLegal fabric p fixed i) is legal

  packed_configures : Configures fabric (packed netlist) i bits
  packed_configures = subst (λ (p : PlainPacked). Configures fabric p i bits) is configures

  pub assembled_runs : (state : PlainState) → LegalDesignsRun → state ≡ design_state design i → RunsDesign fabric text netlist netlist i words state
  assembled_runs state law state_is =
      let runs : RunsDesign fabric text netlist netlist i (stream fabric bits) (design_state (packed netlist) i) =
      law fabric text netlist fixed i bits is_fabric are_tiles is_text made no_cycle packed_legal packed_configures in
      let same : state ≡ design_state (packed netlist) i = state_is ∙ ap (λ (p : PlainPacked). design_state p i) is in
      subst (λ (w : List ℕ). RunsDesign fabric text netlist netlist i w state) (sym words_are)
      (subst (λ (s : PlainState). RunsDesign fabric text netlist netlist i (stream fabric bits) s) (sym same) runs)

  pub assembled_settles : LegalDesignsSettle → SettlesDesign fabric text netlist netlist i words
  assembled_settles law =
      subst (λ (w : List ℕ). SettlesDesign fabric text netlist netlist i w) (sym words_are)
      (law fabric text netlist fixed i bits is_fabric are_tiles is_text made no_cycle packed_legal packed_configures)
