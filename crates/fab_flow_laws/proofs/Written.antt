-- What `bits` makes of BASE.fasm.
use Rattle.std.proofs.Common.{◌≡◌, ℕ, All, List, ◌++◌, codes, Option, Some, ap, ◌∙◌}
use Rattle.std.specs.List.{flat_map}
use Rattle.fab_desk.specs.Files.{Map}
use Rattle.fab_model.specs.Drive.{PlainBits}
use Rattle.fab_netlist.specs.Packed.{PlainPacked}
use Rattle.fab_netlist.specs.Packing.{packed}
use Rattle.fab_netlist.specs.Resets.{netlist_with}
use Rattle.fab_implementation.specs.Plain.{PlainImplementation}
use Rattle.fab_legal.specs.Legal.{IsLegal}
use Rattle.fab_legal.specs.Turns.{AreRight}
use Rattle.fab_fasm.specs.declared.feature.Feature.{Feature}
use Rattle.fab_fasm.specs.Printing.{HasSpelling, printed}
use Rattle.fab_frames.specs.Bytes.{word_bytes}
use Rattle.fab_frames.specs.Stream.{stream}
use Rattle.fab_outputs.specs.Storing.{PlainOutput, with_outputs}
use Rattle.fab_designs.specs.Designs.{DesignFiles, PlainDesign, SpellsDesign}
use Rattle.fab_flow_laws.specs.BitsLaws.{BitMapsAreOne, DesignFeaturesAreRight}
use Rattle.fab_flow_laws.specs.fab_features_Design.{design_features, tile_features}
use Rattle.fab_flow_laws.specs.fab_features_Features.{IsBitMapOf}
use Rattle.fab_flow_laws.specs.fab_features_Wrong.{IsRightFeature}
use Rattle.fab_flow_laws.specs.fab_use_defs_Registers.{design_state}
use Rattle.fab_flow_laws.specs.fab_fabric_text_defs_Places.{placed_tiles}
use Rattle.fab_spelled_designs_laws.specs.DesignLaws.{LegalDesignsAreSpelled}
use Rattle.fab_flow_laws.proofs.Stored.{flow_features_stand, flow_words_stand}
use Rattle.fab_flow_laws.specs.FeaturesLaws.{AssembledFeaturesAreTheirBits, FlowFeaturesAreTheirBits, IsItsBitstream}
use Rattle.fab_flow_laws.proofs.Fabrics.{IsPromised, spelled_is_promised}
use Rattle.fab_flow_laws.proofs.Files.{features_assembled, words_assembled}
use Rattle.fab_flow_laws.proofs.Lists.{is_ready, listed_bytes}

module _ (one : BitMapsAreOne) (are_right : DesignFeaturesAreRight) (are_spelled : LegalDesignsAreSpelled) where
  module _ (files : Map) (names : DesignFiles) (design : PlainDesign) (spelled : SpellsDesign files names design) (reset : Option (List ℕ))
      (implementation : PlainImplementation) (legal : IsLegal design.fabric (packed (netlist_with reset design.netlist)) design.fixed implementation) where
    abbrev cells : PlainPacked
    cells = packed (netlist_with reset design.netlist)

    abbrev features : List Feature
    features = design_features design.fabric cells implementation

    -- without the numbers of lines
    abbrev behind : List Feature
    behind = flat_map (tile_features design.fabric cells implementation) (placed_tiles design.fabric)

    promised : IsPromised design.fabric
    promised = spelled_is_promised files names.fabric design.fabric spelled.fabric

    has : All HasSpelling features
    has = (are_spelled files names design reset implementation spelled legal).features

    right : AreRight (IsRightFeature design.fabric) features
    right = are_right design.fabric promised.is promised.tiles promised.named promised.prefixed cells design.fixed implementation legal

    its_bitstream : (base : List ℕ) (stored : Map) (bits : PlainBits) → IsBitMapOf design.fabric features bits →
        stored (base ++ codes ".fasm") ≡ Some (printed features) → stored (base ++ codes ".bit") ≡ Some (flat_map word_bytes (stream design.fabric bits)) →
        IsItsBitstream design.fabric base stored
    its_bitstream base stored bits bit_map features_stand words_stand = record {
      ready = λ later name file out text stands found.
          is_ready behind has design.fabric promised.is later name file stands.spelled (stands.kept ∙ features_stand) right out text found;
      same = λ later name file out outputs stands made. (
        flat_map word_bytes (stream design.fabric bits),
        words_stand,
        listed_bytes behind has design.fabric promised.is later name file stands.spelled (stands.kept ∙ features_stand) out outputs made one bits bit_map,
      );
    }

  pub assembled_features : AssembledFeaturesAreTheirBits
  assembled_features files names stored made =
      let ready = made.ready in
      let fabric = ready.design.fabric in
      let reset = ready.implementation.reset in
      let state = design_state (packed (netlist_with reset ready.design.netlist)) ready.implementation in
      let features = design_features fabric (packed (netlist_with reset ready.design.netlist)) ready.implementation in
      let words = stream fabric made.made.bits in
      let after_is = ap (λ (list : List PlainOutput). with_outputs list files) made.made.outputs_are in
      its_bitstream files names.design ready.design ready.spelled reset ready.implementation ready.legal names.base (with_outputs stored files) made.made.bits made.made.bit_map
      (ap (λ (m : Map). m (names.base ++ codes ".fasm")) after_is ∙ features_assembled files names.base features words state)
      (ap (λ (m : Map). m (names.base ++ codes ".bit")) after_is ∙ words_assembled files names.base features words state)

  pub flow_features : FlowFeaturesAreTheirBits
  flow_features files names allowed stored made =
      its_bitstream files names.design made.design made.spelled names.reset made.made.implementation made.made.legal names.base (with_outputs stored files)
      made.made.assembly.bits
      made.made.assembly.bit_map
      (flow_features_stand files names allowed stored made)
      (flow_words_stand files names allowed stored made)
