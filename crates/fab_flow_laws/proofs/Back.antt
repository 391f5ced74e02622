-- What `bits` makes of what `features` wrote.
use Rattle.std.proofs.Common.{◌≡◌, ℕ, ◌+◌, ◌<◌, ◌⊎◌, All, List, [], ◌∷◌, ◌++◌, codes, length, Some, sym, ap, ◌∙◌, subst, arith}
use Rattle.std.specs.List.{flat_map}
use Rattle.fab_bits.specs.Bits.{number}
use Rattle.fab_bits.proofs.Numbers.{first_bits_same}
use Rattle.fab_desk.specs.Files.{Map}
use Rattle.fab_model.specs.Tiles.{PlainTile, output_field}
use Rattle.fab_model.specs.Grid.{PlainFabric, tile_at}
use Rattle.fab_model.specs.Drive.{PlainBits, matrix_inputs, select_value}
use Rattle.fab_fabric.specs.Bits.{AreBitsOf, plain_bits}
use Rattle.fab_fabric.specs.Fabric.{IsFabric}
use Rattle.fab_fasm.specs.Printing.{HasSpelling, printed}
use Rattle.fab_fasm.specs.declared.feature.Feature.{Feature}
use Rattle.fab_frames.specs.Bytes.{word_bytes}
use Rattle.fab_frames.specs.Stream.{stream}
use Rattle.fab_netlist.specs.Packing.{packed}
use Rattle.fab_netlist.specs.Resets.{netlist_with}
use Rattle.fab_read.proofs.FabricsOnce.{one_fabric}
use Rattle.fab_outputs.specs.Storing.{PlainOutput, output, with_outputs}
use Rattle.fab_flow_laws.specs.BitsLaws.{AreSaid, BitMapsAreOne, BitMapsSelectInputs, HaveSameBits, SelectsInputs, SpelledBitsAreSaid}
use Rattle.fab_flow_laws.specs.fab_features_Design.{design_features}
use Rattle.fab_flow_laws.specs.fab_features_Features.{IsBitMapOf}
use Rattle.fab_flow_laws.specs.fab_features_Spelled.{features_in, place_spells}
use Rattle.fab_flow_laws.specs.fab_use_defs_Registers.{design_state}
use Rattle.fab_flow_laws.specs.fab_fabric_text_defs_Places.{placed_tiles}
use Rattle.fab_flow_laws.proofs.fab_features_Fields.{field_fits}
use Rattle.fab_flow_laws.specs.fab_flow_BitFeatures.{FeaturesFiles, MakesFeatures}
use Rattle.fab_flow_laws.specs.fab_flow_Flowing.{used}
use Rattle.fab_flow_laws.proofs.HandedOut.{found_is}
use Rattle.fab_flow_laws.proofs.Stored.{flow_words_stand}
use Rattle.fab_flow_laws.specs.FeaturesLaws.{AssembledBitstreamsComeBack, ComesBack, FeaturesGiveBitsBack, FlowBitstreamsComeBack, GivesBack, SpelledFeaturesAreWritten, SpelledPairsStandOnce, StandsBehind}
use Rattle.fab_flow_laws.proofs.Fabrics.{IsPromised, spelled_is_promised}
use Rattle.fab_flow_laws.proofs.Files.{output_stands, words_assembled}
use Rattle.fab_flow_laws.proofs.Listed.{told_bits}
use Rattle.fab_flow_laws.proofs.Lists.{is_ready, listed_bytes, made_of_list}
use Rattle.fab_flow_laws.proofs.Streams.{stream_told}

module _ (one : BitMapsAreOne) (said : SpelledBitsAreSaid) (stand_once : SpelledPairsStandOnce) (written : SpelledFeaturesAreWritten) where
  module _ (files : Map) (names : FeaturesFiles) (stored : List PlainOutput) (made : MakesFeatures files names stored) where
    abbrev bits : PlainBits
    bits = plain_bits made.bits

    -- without the numbers of lines
    abbrev behind : List Feature
    behind = flat_map (place_spells bits) (placed_tiles made.fabric)

    promised : IsPromised made.fabric
    promised = spelled_is_promised files names.fabric made.fabric made.spelled

    has : All HasSpelling (features_in made.fabric bits)
    has = written files names.fabric made.fabric made.spelled bits

    are_said : AreSaid made.fabric bits
    are_said = said made.fabric promised.is promised.tiles promised.named promised.prefixed bits

    stands : with_outputs stored files names.out ≡ Some (printed (features_in made.fabric bits))
    stands =
        ap (λ (list : List PlainOutput). with_outputs list files names.out) made.outputs_are
        ∙ output_stands files names.out (printed (features_in made.fabric bits))

    -- the bytes of the bitstream file
    given_bytes : made.read.bytes ≡ flat_map word_bytes (stream made.fabric bits)
    given_bytes = made.read.spelled.of_words.bytes_are ∙ ap (flat_map word_bytes) made.read.spelled.words_are

    give_back : GivesBack made
    give_back = record {
      ready = λ later name file out text kept found.
          is_ready behind has made.fabric promised.is later name file kept.spelled (kept.kept ∙ stands) are_said.right out text found;
      alike = λ later name file out outputs kept back.
          are_said.alike (plain_bits back.made.bits)
          (made_of_list behind has made.fabric promised.is later name file kept.spelled (kept.kept ∙ stands) out outputs back);
      same = λ later name file out outputs kept selects back.
          listed_bytes behind has made.fabric promised.is later name file kept.spelled (kept.kept ∙ stands) out outputs back one bits
          (are_said.same (stand_once files names.fabric made.fabric made.spelled) selects)
          ∙ ap (λ (bytes : List ℕ). output out bytes ∷ []) (sym given_bytes);
    }

  pub features_back : FeaturesGiveBitsBack
  features_back files names stored made = give_back files names stored made

-- ---- BASE.bit

-- bits that are the same select the same
select_same : (fabric : PlainFabric) (first second : PlainBits) (x y output : ℕ) (tile : PlainTile) → HaveSameBits fabric first second → tile_at fabric x y ≡ Some tile →
    select_value tile (first x y) output ≡ select_value tile (second x y) output
select_same fabric first second x y output tile same tile_is =
    let field : ℕ × ℕ = output_field tile output in
    ap number (first_bits_same field.1 (λ place. first x y (field.0 + place)) (λ place. second x y (field.0 + place))
    (λ place few. same x y (field.0 + place) tile tile_is (omega (arith, few, field_fits tile output))))

selects_same : (fabric : PlainFabric) (first second : PlainBits) → HaveSameBits fabric first second → SelectsInputs fabric first → SelectsInputs fabric second
selects_same fabric first second same selects x y output tile tile_is =
    subst (λ n. (n ≡ 0) ⊎ (n < length (matrix_inputs tile output))) (select_same fabric first second x y output tile same tile_is) (selects x y output tile tile_is)

-- what is said of BASE.bit, whose bits are the bit map of some features
module _ (one : BitMapsAreOne) (select : BitMapsSelectInputs) (said : SpelledBitsAreSaid) (stand_once : SpelledPairsStandOnce) (written : SpelledFeaturesAreWritten) where
  module _ (fabric : PlainFabric) (is : IsFabric fabric) (features : List Feature) (bits : PlainBits) (bit_map : IsBitMapOf fabric features bits)
      (base : List ℕ) (stored : Map) (words_stand : stored (base ++ codes ".bit") ≡ Some (flat_map word_bytes (stream fabric bits))) where
    comes_back : ComesBack fabric base stored
    comes_back later names wrote spelled kept again last name file out outputs stands back =
        let bytes : List ℕ = flat_map word_bytes (stream fabric bits) in
        let fabrics : again.fabric ≡ fabric = one_fabric later names.fabric again.fabric fabric again.spelled spelled in
        let bytes_are : again.read.bytes ≡ bytes = found_is later names.bit again.read.bytes bytes (kept ∙ words_stand) again.read.found in
        let bytes_same : bytes ≡ flat_map word_bytes (stream fabric (plain_bits again.bits)) =
        sym bytes_are
        ∙ again.read.spelled.of_words.bytes_are
        ∙ ap (flat_map word_bytes) again.read.spelled.words_are
        ∙ ap (λ (f : PlainFabric). flat_map word_bytes (stream f (plain_bits again.bits))) fabrics in
        let are = subst (λ (f : PlainFabric). AreBitsOf f again.bits) fabrics again.read.spelled.are in
        let same = told_bits fabric bits again.bits is are (stream_told fabric bits (plain_bits again.bits) bytes_same) in
        let selects = selects_same fabric bits (plain_bits again.bits) same (select fabric features bits bit_map) in
        let selects_again = subst (λ (f : PlainFabric). SelectsInputs f (plain_bits again.bits)) (sym fabrics) selects in
        let stands_again = subst (λ (f : PlainFabric). StandsBehind f names.out (with_outputs wrote later) last name file) (sym fabrics) stands in
        let gives = (features_back one said stand_once written later names wrote again).same last name file out outputs stands_again selects_again back in
        (bytes, words_stand, gives ∙ ap (λ (b : List ℕ). output out b ∷ []) bytes_are)

  pub assembled_back : AssembledBitstreamsComeBack
  assembled_back files names stored made =
      let ready = made.ready in
      let fabric = ready.design.fabric in
      let cells = packed (netlist_with ready.implementation.reset ready.design.netlist) in
      let features = design_features fabric cells ready.implementation in
      comes_back fabric (spelled_is_promised files names.design.fabric fabric ready.spelled.fabric).is features made.made.bits made.made.bit_map names.base
      (with_outputs stored files)
      (ap (λ (list : List PlainOutput). with_outputs list files (names.base ++ codes ".bit")) made.made.outputs_are
      ∙ words_assembled files names.base features (stream fabric made.made.bits) (design_state cells ready.implementation))

  pub flows_back : FlowBitstreamsComeBack
  flows_back files names allowed stored made =
      let fabric = made.design.fabric in
      comes_back fabric (spelled_is_promised files names.design.fabric fabric made.spelled.fabric).is
      (design_features fabric (packed (used names made.design)) made.made.implementation)
      made.made.assembly.bits
      made.made.assembly.bit_map
      names.base
      (with_outputs stored files)
      (flow_words_stand files names allowed stored made)
