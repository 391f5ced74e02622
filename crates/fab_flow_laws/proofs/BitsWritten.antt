-- The features that configuration bits of a fabric spell can be written in lines.
use Rattle.std.proofs.Common.{◌≡◌, ℕ, ◌+◌, ◌-◌, ◌<◌, ◌≤◌, ◌^◌, Bool, true, false, All, List, [], ◌∷◌, ◌++◌, length, codes, Contains, Option, Some, None, nat_eq, slice_get, refl, sym, ap, ◌∙◌, subst, inl, inr, arith}
use Rattle.std.specs.Prelude.{if◌then◌else◌}
use Rattle.std.specs.List.{filter_map, flat_map}
use Rattle.std.specs.Option.{option_map_or}
use Rattle.std.proofs.lemmas.List.Elements.{All-contains_itself}
use Rattle.fab_kinds.specs.declared.kind.Kind.{Kind}
use Rattle.fab_kinds.specs.declared.kind.Kind.TheVariants as kinds
use Rattle.fab_lines.specs.Names.{is_identifier}
use Rattle.fab_select.specs.declared.pair.Pair.{Pair}
use Rattle.fab_select.specs.Selection.{in_order}
use Rattle.fab_model.specs.declared.tiles.Bel.{Bel}
use Rattle.fab_model.specs.Tiles.{IsPair, PlainTile, TileWire, bits_before, counted, numbered_pairs, wire_passes}
use Rattle.fab_model.specs.Grid.{PlainFabric, tile_at}
use Rattle.fab_model.specs.Drive.{PlainBits, matrix_inputs, select_value}
use Rattle.fab_model.proofs.Steps.{map_gives}
use Rattle.fab_fabric.specs.Fabric.{AreTiles, IsFabric, wires_at}
use Rattle.fab_fabric.specs.Names.{name_at}
use Rattle.fab_fabric.specs.declared.wire.Site.{Site}
use Rattle.fab_fabric.proofs.Numbered.{wires_of_tile}
use Rattle.fab_fabric.proofs.Pairs.{passes_named}
use Rattle.fab_netlist.proofs.Members.{at_in, first_or_later, in_none, number_any}
use Rattle.fab_legal.proofs.Members.{in_either}
use Rattle.fab_legal.proofs.Pins.{is_tile_at}
use Rattle.fab_legal.proofs.SinkLaw.{in_flat}
use Rattle.fab_fasm.specs.Parts.{is_feature, width_of}
use Rattle.fab_fasm.specs.Printing.{HasSpelling}
use Rattle.fab_fasm.specs.declared.feature.Feature.{Feature}
use Rattle.fab_flow_laws.specs.fab_fabric_text_defs_Places.{PlacedTile, placed_tiles}
use Rattle.fab_flow_laws.specs.fab_features_Design.{feature_of, field_name, site_in}
use Rattle.fab_flow_laws.specs.fab_features_Spelled.{TileBits, bel_features, features_in, field_features, kind_features, picked_input, place_spells, tile_pair_name, tile_picks, value_of}
use Rattle.fab_flow_laws.proofs.fab_features_DesignLines.{from_found, from_numbered, item_at, pair_of_input, placed_there, relined}
use Rattle.fab_flow_laws.proofs.fab_features_Listed.{named}
use Rattle.fab_flow_laws.proofs.fab_features_Tables.{few_bels}
use Rattle.fab_flow_laws.proofs.fab_features_Values.{number_below}
use Rattle.fab_flow_laws.proofs.fab_features_Words.{from_counted, of_all}
use Rattle.fab_spelled_designs_laws.proofs.FeatureNames.{field_spelled, pair_spelled}
use Rattle.fab_spelled_designs_laws.proofs.Written.{HasWords, name_named}

relined_spelled : (line : ℕ) (feature : Feature) → HasSpelling feature → HasSpelling (relined line feature)
relined_spelled line feature has = record { named = has.named; ordered = has.ordered; bounded = has.bounded; narrow = has.narrow; fitting = has.fitting }

-- ---- BELs

-- a value is listed where it is not 0
listed_spelled : (zero : Bool) (only feature : Feature) → HasSpelling only → Contains (if zero then [] else only ∷ []) feature → HasSpelling feature
listed_spelled true only feature has here = absurd (in_none feature here)
listed_spelled false only feature has here = elim (first_or_later only [] feature here) [
  | inl same ↦ subst HasSpelling same has
  | inr none ↦ absurd (in_none feature none)
]

-- in one of two lists
either_spelled : (xs ys : List Feature) (feature : Feature) → (Contains xs feature → HasSpelling feature) → (Contains ys feature → HasSpelling feature) →
    Contains (xs ++ ys) feature → HasSpelling feature
either_spelled xs ys feature first second here = elim (in_either xs ys feature here) [ inl there ↦ first there | inr there ↦ second there ]

-- the bits of a field spell a value that fits its address
field_fits : (bits : TileBits) (site : Site) (field : List ℕ) (low width : ℕ) (feature : Feature) → site.bel < 26 → is_identifier field ≡ true → 0 < width →
    width ≤ 128 →
    Contains (field_features bits site field low width) feature → HasSpelling feature
field_fits bits site field low width feature few is some narrow here =
    let value = value_of bits low width in
    let whole : width_of (width - 1) 0 ≡ width = omega (arith, some) in
    let only : HasSpelling (feature_of (field_name site field) (width - 1) 0 value) = record {
      named = field_spelled site field few is;
      ordered = omega arith;
      bounded = omega (arith, narrow);
      narrow = omega (arith, whole, narrow);
      fitting = subst (λ n. value < 2 ^ n) (sym whole) (number_below width (λ place. bits (low + place)));
    } in
    listed_spelled (nat_eq value 0) (feature_of (field_name site field) (width - 1) 0 value) feature only here

kind_spelled : (bits : TileBits) (site : Site) (low : ℕ) (kind : Kind) (feature : Feature) → site.bel < 26 →
    Contains (kind_features bits site low kind) feature → HasSpelling feature
kind_spelled bits site low kinds.Lut4c feature few here =
    let one : (field : List ℕ) (first : ℕ) → is_identifier field ≡ true → Contains (field_features bits site field first 1) feature → HasSpelling feature =
    λ field first is there. field_fits bits site field first 1 feature few is (omega arith) (omega arith) there in
    let table = field_features bits site (codes "INIT") low 16 in
    let latch = field_features bits site (codes "FF") (low + 16) 1 in
    let carry = field_features bits site (codes "IOmux") (low + 17) 1 in
    let reset = field_features bits site (codes "SET_NORESET") (low + 18) 1 in
    elim (in_either ((table ++ latch) ++ carry) reset feature here) [
      | inr there ↦ one (codes "SET_NORESET") (low + 18) refl there
      | inl front ↦ either_spelled (table ++ latch) carry feature
          (either_spelled table latch feature (field_fits bits site (codes "INIT") low 16 feature few refl (omega arith) (omega arith))
          (one (codes "FF") (low + 16) refl))
          (one (codes "IOmux") (low + 17) refl) front
    ]
kind_spelled bits site low kinds.Io feature few here = absurd (in_none feature here)
kind_spelled bits site low kinds.Mux8 feature few here =
    either_spelled (field_features bits site (codes "c0") low 1) (field_features bits site (codes "c1") (low + 1) 1) feature
    (field_fits bits site (codes "c0") low 1 feature few refl (omega arith) (omega arith))
    (field_fits bits site (codes "c1") (low + 1) 1 feature few refl (omega arith) (omega arith)) here

bel_spelled : (bits : TileBits) (placed : PlacedTile) (bel : ℕ) (found : Option Bel) (feature : Feature) → bel < 26 →
    Contains (option_map_or (λ found. kind_features bits (site_in placed bel) (bits_before placed.tile.bels bel) found.kind) found []) feature →
    HasSpelling feature
bel_spelled bits placed bel None feature few here = absurd (in_none feature here)
bel_spelled bits placed bel (Some found) feature few here =
    kind_spelled bits (site_in placed bel) (bits_before placed.tile.bels bel) found.kind feature few here

-- ---- the switch matrix

picked_there : (none : Bool) (found : Option ℕ) (input : ℕ) → (if none then None else found) ≡ Some input → found ≡ Some input
picked_there true found input is = absurd cc
picked_there false found input is = is

-- an input that is picked is that of a pair
picked_pair : (tile : PlainTile) (bits : TileBits) (output input : ℕ) → picked_input tile bits output ≡ Some input →
    (pair : Pair) × Contains tile.pairs pair × (pair.output ≡ output) × (pair.input ≡ input)
picked_pair tile bits output input is =
    let inputs = matrix_inputs tile output in
    let value = select_value tile bits output in
    let there = picked_there (nat_eq value 0) (slice_get inputs value) input is in
    pair_of_input tile.pairs output input (number_any inputs input (at_in inputs value input (item_at inputs value input there)))

-- ---- all of them

module _ (fabric : PlainFabric) (is : IsFabric fabric) (tiles : AreTiles fabric) (words : All HasWords fabric.types) (bits : PlainBits) where
  wire_named : (test : TileWire → Bool) (x y number : ℕ) (tile : PlainTile) → tile_at fabric x y ≡ Some tile → wire_passes test tile number ≡ true →
      is_identifier (name_at fabric x y number) ≡ true
  wire_named test x y number tile tile_is passes =
      let few : number < wires_at fabric x y = omega (arith, passes_named test tile number passes, wires_of_tile fabric x y tile tile_is) in
      name_named fabric words x y number few

  pick_spelled : (placed : PlacedTile) (output input : ℕ) → tile_at fabric placed.x placed.y ≡ Some placed.tile →
      picked_input placed.tile (bits placed.x placed.y) output ≡ Some input →
      HasSpelling (feature_of (tile_pair_name placed input output) 0 0 1)
  pick_spelled placed output input tile_is picked =
      let tile = placed.tile in
      let x = placed.x in
      let y = placed.y in
      let pair = picked_pair tile (bits x y) output input picked in
      let is_pair : IsPair tile pair.0 = of_all (IsPair tile) tile.pairs pair.0 (is_tile_at fabric x y tile tile_is tiles).pairs pair.1 in
      let from = subst (λ n. is_identifier (name_at fabric x y n) ≡ true) pair.3 (wire_named _ x y pair.0.input tile tile_is is_pair.input) in
      let to = subst (λ n. is_identifier (name_at fabric x y n) ≡ true) pair.2 (wire_named _ x y pair.0.output tile tile_is is_pair.output) in
      record {
        named = ap is_feature (sym (named fabric x y input output tile tile_is)) ∙ pair_spelled fabric x y input output from to;
        ordered = omega arith;
        bounded = omega arith;
        narrow = omega arith;
        fitting = omega arith;
      }

  tile_spelled : (placed : PlacedTile) (feature : Feature) → tile_at fabric placed.x placed.y ≡ Some placed.tile → Contains (place_spells bits placed) feature →
      HasSpelling feature
  tile_spelled placed feature tile_is here =
      let numbers = counted (length placed.tile.bels) (λ bel. bel) in
      let order = in_order nat_eq (numbered_pairs placed.tile) in
      let its_bits = bits placed.x placed.y in
      elim (in_either (flat_map (bel_features its_bits placed) numbers) (filter_map (tile_picks its_bits placed) order) feature here) [
        | inl of_bels ↦ (
            let bel = in_flat (bel_features its_bits placed) numbers feature of_bels in
            let counted_bel = from_counted (length placed.tile.bels) (λ bel. bel) bel.0 bel.1 in
            let few : bel.0 < 26 = omega (arith, counted_bel.1, counted_bel.2, few_bels fabric placed.x placed.y placed.tile is tile_is) in
            bel_spelled its_bits placed bel.0 (slice_get placed.tile.bels bel.0) feature few bel.2)
        | inr of_outputs ↦ (
            let output = from_found (tile_picks its_bits placed) order feature of_outputs in
            let pair : ℕ → Feature = λ input. feature_of (tile_pair_name placed input output.0) 0 0 1 in
            let input = map_gives pair (picked_input placed.tile its_bits output.0) feature output.2 in
            subst HasSpelling input.2 (pick_spelled placed output.0 input.0 tile_is input.1))
      ]

  feature_spelled : (feature : Feature) → Contains (features_in fabric bits) feature → HasSpelling feature
  feature_spelled feature here =
      let n = from_numbered 1 (flat_map (place_spells bits) (placed_tiles fabric)) feature here in
      let placed = in_flat (place_spells bits) (placed_tiles fabric) n.1 n.2 in
      subst HasSpelling n.3 (relined_spelled n.0 n.1 (tile_spelled placed.0 n.1 (placed_there fabric placed.0 placed.1) placed.2))

  pub bits_written : All HasSpelling (features_in fabric bits)
  bits_written = λ k feature few. feature_spelled _ (All-contains_itself (features_in fabric bits) k feature few)
