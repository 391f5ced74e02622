-- The features that bits spell: each is of a field of a BEL, or of an input that select bits pick.
use Rattle.std.proofs.Common.{◌≡◌, ◌≢◌, ◌⊎◌, ℕ, ◌+◌, ◌-◌, ◌<◌, true, List, [], length, All, Contains, Option, Some, None, nat_eq, slice_get, sym, refl, ap, ◌∙◌, subst, inl, inr, arith}
use Rattle.std.specs.List.{flat_map, filter_map}
use Rattle.std.specs.Option.{option_map, option_map_or}
use Rattle.std.proofs.lemmas.Option.{slice_get_within}
use Rattle.fab_kinds.specs.Pins.{bit_count}
use Rattle.fab_select.specs.Selection.{in_order}
use Rattle.fab_model.specs.declared.tiles.Bel.{Bel}
use Rattle.fab_model.specs.Tiles.{PlainTile, counted, numbered_pairs, bits_before}
use Rattle.fab_model.specs.Grid.{PlainFabric, tile_at}
use Rattle.fab_model.specs.Drive.{PlainBits}
use Rattle.fab_fabric.specs.Fabric.{IsFabric, AreTiles}
use Rattle.fab_fabric.specs.declared.wire.Site.{Site}
use Rattle.fab_netlist.specs.WellMade.{table_bit}
use Rattle.fab_netlist.proofs.Members.{in_none, in_left, in_right}
use Rattle.fab_legal.proofs.Members.{in_either}
use Rattle.fab_legal.proofs.SinkLaw.{in_flat, into_flat}
use Rattle.fab_use_defs.proofs.fab_tile_drives_laws_Members.{contains_counted}
use Rattle.fab_fasm.specs.declared.feature.Feature.{Feature}
use Rattle.fab_use_defs.specs.fab_fabric_text_defs_Places.{PlacedTile, placed_tiles}
use Rattle.fab_use_defs.specs.fab_gen_tile_Words.{IsNamed}
use Rattle.fab_features.specs.Said.{said_of, field_of, TwoNumbers, bel_field, choice}
use Rattle.fab_features.specs.Naming.{HasPrefixes}
use Rattle.fab_features.specs.NameParts.{of_field, of_pair}
use Rattle.fab_features.specs.Features.{SetsBelBit, Chooses}
use Rattle.fab_features.specs.Design.{feature_of, field_name, pair_name, site_in}
use Rattle.fab_features.specs.Spelled.{value_of, kind_features, bel_features, picked_input, tile_pair_name, tile_picks, place_spells, features_in}
use Rattle.fab_features.specs.inner.Listing.{placed_tile}
use Rattle.fab_features.specs.declared.said.Said.TheVariants as said
use Rattle.fab_features.proofs.DesignLines.{into_found, from_found, relined, from_numbered, into_numbered, tile_placed, placed_there, output_ordered}
use Rattle.fab_features.proofs.Listed.{named}
use Rattle.fab_features.proofs.PartsOfNames.{names_are_read}
use Rattle.fab_flow_laws.proofs.SpelledBits.{spelled_bit, none_set, picked_listed}
use Rattle.fab_flow_laws.proofs.SpelledFields.{from_kind, bit_field, into_unless, wide_field}

-- ---- lines

-- a feature of a field, whose value is what its bits spell
pub record IsFieldLine (fabric : PlainFabric) (bits : PlainBits) (feature : Feature) : Type 0 where
  pub x : ℕ
  pub y : ℕ
  pub bel : ℕ
  pub tile : PlainTile
  pub field : TwoNumbers
  pub tile_is : tile_at fabric x y ≡ Some tile
  pub says : said_of fabric feature.name ≡ Some (said.OfBel (bel_field x y bel field.0 field.1))
  pub low_is : feature.low ≡ 0
  pub high_is : feature.high ≡ field.1 - 1
  pub wide : 0 < field.1
  pub value_is : feature.value ≡ value_of (bits x y) (bits_before tile.bels bel + field.0) field.1

-- a feature of an input that select bits pick
pub record IsPickLine (fabric : PlainFabric) (bits : PlainBits) (feature : Feature) : Type 0 where
  pub x : ℕ
  pub y : ℕ
  pub output : ℕ
  pub input : ℕ
  pub tile : PlainTile
  pub tile_is : tile_at fabric x y ≡ Some tile
  pub picked : picked_input tile (bits x y) output ≡ Some input
  pub says : said_of fabric feature.name ≡ Some (said.OfPair (choice x y output input))
  pub high_is : feature.high ≡ 0

module _ (fabric : PlainFabric) (is_fabric : IsFabric fabric) (tiles : AreTiles fabric) (free : All IsNamed fabric.types)
    (prefixed : All HasPrefixes fabric.types) (bits : PlainBits) where
  abbrev features : List Feature
  features = features_in fabric bits

  -- ---- of BELs

  field_says : (site : Site) (word : List ℕ) (tile : PlainTile) (found : Bel) (field : TwoNumbers) → tile_at fabric site.x site.y ≡ Some tile →
      slice_get tile.bels site.bel ≡ Some found → field_of found.kind word ≡ Some field →
      said_of fabric (field_name site word) ≡ Some (said.OfBel (bel_field site.x site.y site.bel field.0 field.1))
  field_says site word tile found field tile_is bel_is field_is =
      (names_are_read fabric is_fabric tiles free prefixed (field_name site word) (said.OfBel (bel_field site.x site.y site.bel field.0 field.1))).1 (of_field site word tile_is bel_is field_is)

  field_line : (placed : PlacedTile) (bel number : ℕ) (g : Feature) → tile_at fabric placed.x placed.y ≡ Some placed.tile →
      Contains (bel_features (bits placed.x placed.y) placed bel) g →
      IsFieldLine fabric bits (relined number g)
  field_line placed bel number g tile_is here = by (slice_get placed.tile.bels bel) refl here
    where
      by : (o : Option Bel) → slice_get placed.tile.bels bel ≡ o →
          Contains (option_map_or (λ (found : Bel). kind_features (bits placed.x placed.y) (site_in placed bel) (bits_before placed.tile.bels bel) found.kind) o []) g → IsFieldLine fabric bits (relined number g)
      by None bel_is here = absurd (in_none g here)
      by (Some found) bel_is here =
          let site = site_in placed bel in
          let f = from_kind (bits placed.x placed.y) site (bits_before placed.tile.bels bel) found.kind g here in
          record {
            x = placed.x;
            y = placed.y;
            bel = bel;
            tile = placed.tile;
            field = f.field;
            tile_is = tile_is;
            says = ap (λ (h : Feature). said_of fabric h.name) (sym f.is) ∙ field_says site f.word placed.tile found f.field tile_is bel_is f.field_is;
            low_is = ap (λ (h : Feature). h.low) (sym f.is);
            high_is = ap (λ (h : Feature). h.high) (sym f.is);
            wide = wide_field found.kind f.word f.field f.field_is;
            value_is = ap (λ (h : Feature). h.value) (sym f.is);
          }

  -- ---- of outputs

  pick_says : (x y output input : ℕ) (tile : PlainTile) → tile_at fabric x y ≡ Some tile → picked_input tile (bits x y) output ≡ Some input →
      said_of fabric (tile_pair_name (placed_tile x y tile) input output) ≡ Some (said.OfPair (choice x y output input))
  pick_says x y output input tile tile_is picked =
      ap (said_of fabric) (sym (named fabric x y input output tile tile_is))
      ∙ (names_are_read fabric is_fabric tiles free prefixed (pair_name fabric x y input output) (said.OfPair (choice x y output input))).1
      (of_pair x y input output tile_is (picked_listed tile (bits x y) output input picked))

  picked_line : (placed : PlacedTile) (output number : ℕ) (g : Feature) → tile_at fabric placed.x placed.y ≡ Some placed.tile →
      tile_picks (bits placed.x placed.y) placed output ≡ Some g →
      IsPickLine fabric bits (relined number g)
  picked_line placed output number g tile_is here = by (picked_input placed.tile (bits placed.x placed.y) output) refl here
    where
      never : (f : Feature) → None ≡ Some f → ⊥
      never f e = cc

      same_feature : (a b : Feature) → Some a ≡ Some b → a ≡ b
      same_feature a b e = cc

      by : (o : Option ℕ) → picked_input placed.tile (bits placed.x placed.y) output ≡ o →
          option_map (λ input. feature_of (tile_pair_name placed input output) 0 0 1) o ≡ Some g →
          IsPickLine fabric bits (relined number g)
      by None picked e = absurd (never g e)
      by (Some input) picked e =
          let is : feature_of (tile_pair_name placed input output) 0 0 1 ≡ g = same_feature (feature_of (tile_pair_name placed input output) 0 0 1) g e in
          record {
            x = placed.x;
            y = placed.y;
            output = output;
            input = input;
            tile = placed.tile;
            tile_is = tile_is;
            picked = picked;
            says = ap (λ (h : Feature). said_of fabric h.name) (sym is) ∙ pick_says placed.x placed.y output input placed.tile tile_is picked;
            high_is = ap (λ (h : Feature). h.high) (sym is);
          }

  -- ---- all

  pub spelled_line : (f : Feature) → Contains features f → IsFieldLine fabric bits f ⊎ IsPickLine fabric bits f
  spelled_line f here =
      let n = from_numbered 1 (flat_map (place_spells bits) (placed_tiles fabric)) f here in
      let g = n.1 in
      let p = in_flat (place_spells bits) (placed_tiles fabric) g n.2 in
      let placed = p.0 in
      let tile_is = placed_there fabric placed p.1 in
      let of_bels : List Feature = flat_map (bel_features (bits placed.x placed.y) placed) (counted (length placed.tile.bels) (λ bel. bel)) in
      let of_outputs : List Feature = filter_map (tile_picks (bits placed.x placed.y) placed) (in_order nat_eq (numbered_pairs placed.tile)) in
      elim (in_either of_bels of_outputs g p.2) [
        | inl bels ↦ (
            let bel = in_flat (bel_features (bits placed.x placed.y) placed) (counted (length placed.tile.bels) (λ bel. bel)) g bels in
            inl (subst (IsFieldLine fabric bits) n.3 (field_line placed bel.0 n.0 g tile_is bel.2)))
        | inr outputs ↦ (
            let output = from_found (tile_picks (bits placed.x placed.y) placed) (in_order nat_eq (numbered_pairs placed.tile)) g outputs in
            inr (subst (IsPickLine fabric bits) n.3 (picked_line placed output.0 n.0 g tile_is output.2)))
      ]

  into_spelled : (x y : ℕ) (tile : PlainTile) (g : Feature) → tile_at fabric x y ≡ Some tile → Contains (place_spells bits (placed_tile x y tile)) g →
      (line : ℕ) × Contains features (relined line g)
  into_spelled x y tile g is here =
      into_numbered 1 (flat_map (place_spells bits) (placed_tiles fabric)) g (into_flat (place_spells bits) (placed_tiles fabric) (placed_tile x y tile) g (tile_placed fabric x y tile is) here)

  -- a bit of a BEL that is 1 is set by a feature
  pub bit_spelled : (x y bel bit : ℕ) (tile : PlainTile) (found : Bel) → tile_at fabric x y ≡ Some tile → slice_get tile.bels bel ≡ Some found →
      bit < bit_count found.kind →
      bits x y (bits_before tile.bels bel + bit) ≡ true → (feature : Feature) × Contains features feature × SetsBelBit fabric feature x y bel bit
  bit_spelled x y bel bit tile found tile_is bel_is few one =
      let placed = placed_tile x y tile in
      let site = site_in placed bel in
      let low = bits_before tile.bels bel in
      let h = bit_field (bits x y) site low found.kind bit few in
      let first = h.field.0 in
      let width = h.field.1 in
      let value = value_of (bits x y) (low + first) width in
      let above = h.above in
      let below = h.below in
      let back : low + first + (bit - first) ≡ low + bit = omega (arith, above) in
      let bit_is : table_bit value (bit - first) ≡ true =
      spelled_bit width (λ place. bits x y (low + first + place)) (bit - first) (omega (arith, above, below)) ∙ ap (bits x y) back ∙ one in
      let some : value ≢ 0 = λ zero_is. none_set (bit - first) (ap (λ n. table_bit n (bit - first)) (sym zero_is) ∙ bit_is) in
      let g = feature_of (field_name site h.word) (width - 1) 0 value in
      let of_bel : Contains (kind_features (bits x y) site low found.kind) g = h.listed g (into_unless (field_name site h.word) (width - 1) value some) in
      let of_kind : Contains (bel_features (bits x y) placed bel) g =
      subst (λ (o : Option Bel). Contains (option_map_or (λ (b : Bel). kind_features (bits x y) site low b.kind) o []) g) (sym bel_is) of_bel in
      let inside = slice_get_within tile.bels bel found bel_is in
      let bels : List ℕ = counted (length tile.bels) (λ n. n) in
      let listed =
      into_spelled x y tile g tile_is
      (in_left (flat_map (bel_features (bits x y) placed) bels) (filter_map (tile_picks (bits x y) placed) (in_order nat_eq (numbered_pairs tile))) g
      (into_flat (bel_features (bits x y) placed) bels bel g (contains_counted (length tile.bels) (λ n. n) bel inside) of_kind)) in
      let from_low : bit - (first + 0) ≡ bit - first = omega arith in (
        relined listed.0 g,
        listed.1,
        record {
          first = first;
          width = width;
          said_is = field_says site h.word tile found h.field tile_is bel_is h.field_is;
          above = omega (arith, above);
          below = omega (arith, below);
          one = ap (table_bit value) from_low ∙ bit_is;
        },
      )

  -- a picked input is chosen by a feature
  pub pick_spelled : (x y output input : ℕ) (tile : PlainTile) → tile_at fabric x y ≡ Some tile → picked_input tile (bits x y) output ≡ Some input →
      (feature : Feature) × Contains features feature × Chooses fabric feature x y output input
  pick_spelled x y output input tile tile_is picked =
      let placed = placed_tile x y tile in
      let g = feature_of (tile_pair_name placed input output) 0 0 1 in
      let bels : List ℕ = counted (length tile.bels) (λ n. n) in
      let order = in_order nat_eq (numbered_pairs tile) in
      let found : Contains (filter_map (tile_picks (bits x y) placed) order) g =
      into_found (tile_picks (bits x y) placed) order output g (output_ordered tile output input (picked_listed tile (bits x y) output input picked))
      (ap (option_map (λ n. feature_of (tile_pair_name placed n output) 0 0 1)) picked) in
      let listed =
      into_spelled x y tile g tile_is (in_right (flat_map (bel_features (bits x y) placed) bels) (filter_map (tile_picks (bits x y) placed) order) g found) in
      (relined listed.0 g, listed.1, record { said_is = pick_says x y output input tile tile_is picked; some = λ z. absurd (omega (arith, z)) })
