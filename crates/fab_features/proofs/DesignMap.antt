-- The configuration bits of a design are the bit map of its features.
use Rattle.std.proofs.Common.{◌≡◌, ◌⊎◌, ℕ, ◌+◌, ◌-◌, ◌<◌, ◌≤◌, Bool, false, true, List, length, codes, Contains, Option, Some, None, is_some, nat_eq, slice_get, sym, refl, ap, ◌∙◌, subst, inl, inr, arith, All, eq-eqb, eqb-true, lt-ltb}
use Rattle.std.specs.List.{list_any, find, flat_map, filter_map}
use Rattle.std.specs.Option.{option_map, option_and_then}
use Rattle.std.proofs.lemmas.Bool.{cases_lt}
use Rattle.std.proofs.lemmas.Option.{slice_get_within}
use Rattle.fab_kinds.specs.declared.kind.Kind.{Kind}
use Rattle.fab_kinds.specs.declared.kind.Kind.TheVariants as kinds
use Rattle.fab_kinds.specs.Pins.{bit_count}
use Rattle.fab_select.specs.Selection.{in_order}
use Rattle.fab_select.specs.declared.pair.Pair.{Pair}
use Rattle.fab_model.specs.declared.tiles.Bel.{Bel}
use Rattle.fab_model.specs.Tiles.{PlainTile, IsTile, IsPair, numbered_pairs, counted, wire_passes, is_matrix_output, bits_before}
use Rattle.fab_model.specs.Grid.{PlainFabric, tile_at}
use Rattle.fab_model.specs.Wires.{PlainWire, IsMatrixOutput, plain_wires, dest_of}
use Rattle.fab_model.specs.Drive.{PlainBits, matrix_inputs}
use Rattle.fab_fabric.specs.Fabric.{IsFabric, AreTiles, wires_at}
use Rattle.fab_fabric.specs.Wires.{wire_index, IsIndexOf}
use Rattle.fab_fabric.specs.declared.wire.Site.{Site}
use Rattle.fab_fabric.specs.declared.wire.Wire.{Wire}
use Rattle.fab_fabric.proofs.Numbered.{wires_of_tile, wires_are_named, some_item, one_place, one_wire, wire_with_number}
use Rattle.fab_fabric.proofs.Pairs.{passes_named}
use Rattle.fab_netlist.specs.Plain.{IsAt}
use Rattle.fab_netlist.specs.WellMade.{table_bit}
use Rattle.fab_netlist.specs.Packed.{PlainCell, PlainPacked}
use Rattle.fab_netlist.proofs.Members.{in_none, first_in, in_left, in_right}
use Rattle.fab_implementation.specs.Plain.{Pad, Edge, PlainTree, PlainImplementation}
use Rattle.fab_legal.specs.Legal.{IsLegal}
use Rattle.fab_legal.specs.Steps.{IsStep}
use Rattle.fab_legal.proofs.Members.{in_either}
use Rattle.fab_legal.proofs.SinkLaw.{in_flat, into_flat}
use Rattle.fab_legal.proofs.Pins.{is_tile_at, tile_type, tile_of_kind}
use Rattle.fab_use_defs.proofs.fab_tile_drives_laws_Members.{contains_at, contains_counted}
use Rattle.fab_fasm.specs.declared.feature.Feature.{Feature}
use Rattle.fab_use_defs.specs.fab_fabric_text_defs_Places.{placed_tiles}
use Rattle.fab_use_defs.specs.fab_gen_tile_Words.{IsNamed}
use Rattle.fab_use_defs.specs.Configuring.{cell_bit}
use Rattle.fab_features.specs.Said.{said_of, field_of, bel_field, choice}
use Rattle.fab_features.specs.Naming.{HasPrefixes}
use Rattle.fab_features.specs.Features.{IsBitMapOf, Chooses}
use Rattle.fab_features.specs.Design.{feature_of, field_name, pair_name, same_site, cell_on, cell_features, site_features, edge_into, edge_feature, output_feature, site_in, tile_features, design_features}
use Rattle.fab_features.specs.inner.Adding.{Adds, SomeOf, IsCellOne, IsTreeOne}
use Rattle.fab_features.specs.inner.Lines.{IsLineOne}
use Rattle.fab_features.specs.inner.Listing.{placed_tile}
use Rattle.fab_features.specs.declared.said.BelField.{BelField}
use Rattle.fab_features.specs.declared.said.Choice.{Choice}
use Rattle.fab_features.specs.declared.said.Said.TheVariants as said
use Rattle.fab_features.proofs.Added.{both_added, same_added}
use Rattle.fab_features.proofs.BitMaps.{Agree, bit_map}
use Rattle.fab_features.proofs.Setting.{one_tile, tile_there, behind_table}
use Rattle.fab_features.proofs.Steps.{lands, input_listed, dest_no_output, one_edge}
use Rattle.fab_features.proofs.Configured.{one_line, step_of, line_kind}
use Rattle.fab_features.proofs.Saids.{one_field, one_choice, no_both}
use Rattle.fab_features.proofs.SaidNames.{field_said, pair_said}
use Rattle.fab_features.proofs.Tables.{few_bels}
use Rattle.fab_features.proofs.CellLines.{site_same, same_itself, line_of_cell, IsCellFeature, table_feature, latch_feature, reset_feature, of_cell, latch_listed, reset_listed}
use Rattle.fab_features.proofs.Words.{of_all}
use Rattle.fab_features.proofs.DesignLines.{get_item, item_at, found_in, only_found, into_found, from_found, relined, from_numbered, into_numbered, tile_placed, placed_there, pair_of_input, output_ordered, ordered_pair, plain_output}

module _ (fabric : PlainFabric) (packed : PlainPacked) (fixed : List Pad) (i : PlainImplementation) (legal : IsLegal fabric packed fixed i) (is_fabric : IsFabric fabric) (tiles : AreTiles fabric) where
  -- a feature of a tile is one of the design
  into_design : (x y : ℕ) (tile : PlainTile) (g : Feature) → tile_at fabric x y ≡ Some tile → Contains (tile_features fabric packed i (placed_tile x y tile)) g →
      (line : ℕ) × Contains (design_features fabric packed i) (relined line g)
  into_design x y tile g is here =
      into_numbered 1 (flat_map (tile_features fabric packed i) (placed_tiles fabric)) g
      (into_flat (tile_features fabric packed i) (placed_tiles fabric) (placed_tile x y tile) g (tile_placed fabric x y tile is) here)

  -- ---- cells

  cell_found : (line : ℕ × Site) (cell : PlainCell) → Contains i.cells line → IsAt packed.cells line.0 cell → cell_on packed i.cells line.1 ≡ Some cell
  cell_found line cell here at =
      ap (option_and_then (λ (l : ℕ × Site). slice_get packed.cells l.0)) (only_found (λ (l : ℕ × Site). same_site l.1 line.1) i.cells line here (same_itself line.1)
      (λ other there e. one_line fabric packed fixed i legal tiles other line there here (site_same other.1 line.1 e)))
      ∙ get_item packed.cells line.0 cell at

  found_line : (site : Site) (cell : PlainCell) → cell_on packed i.cells site ≡ Some cell → (line : ℕ × Site) × Contains i.cells line × (line.1 ≡ site) × IsAt packed.cells line.0 cell
  found_line site cell is =
      let line = line_of_cell packed (find (λ (l : ℕ × Site). same_site l.1 site) i.cells) cell is in
      let found = found_in (λ (l : ℕ × Site). same_site l.1 site) i.cells line.0 line.1 in
      (line.0, found.0, site_same line.0.1 site found.1, item_at packed.cells line.0.0 cell line.2)

  -- the LUT4c at the site of a line
  pub record LutAt (site : Site) (tile : PlainTile) : Type 0 where
    pub found : Bel
    pub bel_is : slice_get tile.bels site.bel ≡ Some found
    pub kind_is : found.kind ≡ kinds.Lut4c
    pub inside : site.bel < length tile.bels
    pub few : site.bel < 26

  lut_at : (line : ℕ × Site) (tile : PlainTile) → Contains i.cells line → tile_at fabric line.1.x line.1.y ≡ Some tile → LutAt line.1 tile
  lut_at line tile here tile_is =
      let site = line.1 in
      let found = tile_of_kind site (tile_at fabric site.x site.y) kinds.Lut4c (line_kind fabric packed fixed i legal tiles line here) in
      let same : found.0 ≡ tile = one_tile fabric site.x site.y found.0 tile found.1 tile_is in
      let bel_is : slice_get tile.bels site.bel ≡ Some found.2.0 = ap (λ (t : PlainTile). slice_get t.bels site.bel) (sym same) ∙ found.2.1 in
      let inside = slice_get_within tile.bels site.bel found.2.0 bel_is in
      record { found = found.2.0; bel_is = bel_is; kind_is = found.2.2; inside = inside; few = omega (arith, inside, few_bels fabric site.x site.y tile is_fabric tile_is) }

  init_said : (site : Site) (tile : PlainTile) → tile_at fabric site.x site.y ≡ Some tile → LutAt site tile → said_of fabric (field_name site (codes "INIT")) ≡ Some (said.OfBel (bel_field site.x site.y site.bel 0 16))
  init_said site tile tile_is lut = field_said fabric site tile lut.found (codes "INIT") (0, 16) is_fabric tile_is lut.few lut.bel_is (ap (λ (k : Kind). field_of k (codes "INIT")) lut.kind_is)

  ff_said : (site : Site) (tile : PlainTile) → tile_at fabric site.x site.y ≡ Some tile → LutAt site tile → said_of fabric (field_name site (codes "FF")) ≡ Some (said.OfBel (bel_field site.x site.y site.bel 16 1))
  ff_said site tile tile_is lut = field_said fabric site tile lut.found (codes "FF") (16, 1) is_fabric tile_is lut.few lut.bel_is (ap (λ (k : Kind). field_of k (codes "FF")) lut.kind_is)

  reset_said : (site : Site) (tile : PlainTile) → tile_at fabric site.x site.y ≡ Some tile → LutAt site tile → said_of fabric (field_name site (codes "SET_NORESET")) ≡ Some (said.OfBel (bel_field site.x site.y site.bel 18 1))
  reset_said site tile tile_is lut = field_said fabric site tile lut.found (codes "SET_NORESET") (18, 1) is_fabric tile_is lut.few lut.bel_is (ap (λ (k : Kind). field_of k (codes "SET_NORESET")) lut.kind_is)

  abbrev Resets : Bool
  Resets = is_some packed.reset

  -- a feature of a cell is one of the design
  cell_listed : (line : ℕ × Site) (cell : PlainCell) (tile : PlainTile) (g : Feature) → Contains i.cells line → IsAt packed.cells line.0 cell → tile_at fabric line.1.x line.1.y ≡ Some tile → LutAt line.1 tile →
      Contains (cell_features Resets line.1 (Some cell)) g → (number : ℕ) × Contains (design_features fabric packed i) (relined number g)
  cell_listed line cell tile g here at tile_is lut there =
      let site = line.1 in
      let placed = placed_tile site.x site.y tile in
      let of_site : Contains (site_features packed i site) g = subst (λ (o : Option PlainCell). Contains (cell_features Resets site o) g) (sym (cell_found line cell here at)) there in
      into_design site.x site.y tile g tile_is
      (in_left (flat_map (λ bel. site_features packed i (site_in placed bel)) (counted (length tile.bels) (λ bel. bel))) _ g
      (into_flat (λ bel. site_features packed i (site_in placed bel)) (counted (length tile.bels) (λ bel. bel)) site.bel g (contains_counted (length tile.bels) (λ bel. bel) site.bel lut.inside) of_site))

  -- a bit of a cell is one of a line
  site_bit : (line : ℕ × Site) (cell : PlainCell) (tile : PlainTile) (place : ℕ) → Contains i.cells line → IsAt packed.cells line.0 cell → tile_at fabric line.1.x line.1.y ≡ Some tile → place < 19 → cell_bit Resets cell place ≡ true →
      SomeOf (IsLineOne fabric) (design_features fabric packed i) line.1.x line.1.y (bits_before tile.bels line.1.bel + place)
  site_bit line cell tile place here at tile_is few one =
      let site = line.1 in
      let lut = lut_at line tile here tile_is in
      let small : place < bit_count lut.found.kind = subst (λ (k : Kind). place < bit_count k) (sym lut.kind_is) few in
      elim (cases_lt place 16) [
        | inl low ↦ (
            let listed = cell_listed line cell tile (feature_of (field_name site (codes "INIT")) 15 0 cell.table) here at tile_is lut (first_in _ _ _ refl) in
            let in_table : cell_bit Resets cell place ≡ table_bit cell.table place = rw (lt-ltb place 16 low) refl in
            let back : place - (0 + 0) ≡ place = omega arith in (
              relined listed.0 (feature_of (field_name site (codes "INIT")) 15 0 cell.table),
              listed.1,
              inl (record {
                tile = tile;
                bel = site.bel;
                place = place;
                found = lut.found;
                tile_is = tile_is;
                bel_is = lut.bel_is;
                small = small;
                bit_is = refl;
                sets = record { first = 0; width = 16; said_is = init_said site tile tile_is lut; above = omega arith; below = omega (arith, low); one = ap (table_bit cell.table) back ∙ sym in_table ∙ one };
              }),
            ))
        | inr past ↦ elim (behind_table Resets cell place past one) [
          | inl p ↦ of_one (codes "FF") 16 p.0 (ff_said site tile tile_is lut) lut small (latch_listed Resets site cell p.1)
          | inr p ↦ of_one (codes "SET_NORESET") 18 p.0 (reset_said site tile tile_is lut) lut small (reset_listed Resets site cell p.1)
        ]
      ]
    where
      -- the line of a field of one bit
      of_one : (word : List ℕ) (first : ℕ) → place ≡ first → said_of fabric (field_name line.1 word) ≡ Some (said.OfBel (bel_field line.1.x line.1.y line.1.bel first 1)) → (lut : LutAt line.1 tile) →
          place < bit_count lut.found.kind → Contains (cell_features Resets line.1 (Some cell)) (feature_of (field_name line.1 word) 0 0 1) →
          SomeOf (IsLineOne fabric) (design_features fabric packed i) line.1.x line.1.y (bits_before tile.bels line.1.bel + place)
      of_one word first is says lut small there =
          let listed = cell_listed line cell tile (feature_of (field_name line.1 word) 0 0 1) here at tile_is lut there in
          let back : place - (first + 0) ≡ 0 = omega (arith, is) in (
            relined listed.0 (feature_of (field_name line.1 word) 0 0 1),
            listed.1,
            inl (record {
              tile = tile;
              bel = line.1.bel;
              place = place;
              found = lut.found;
              tile_is = tile_is;
              bel_is = lut.bel_is;
              small = small;
              bit_is = refl;
              sets = record { first = first; width = 1; said_is = says; above = omega (arith, is); below = omega (arith, is); one = ap (table_bit 1) back };
            }),
          )

  cell_to_line : (line : ℕ × Site) (x y bit : ℕ) → Contains i.cells line → IsCellOne fabric packed line x y bit → SomeOf (IsLineOne fabric) (design_features fabric packed i) x y bit
  cell_to_line line x y bit here one =
      let s = one.2 in
      let site = line.1 in
      let features = design_features fabric packed i in
      let tile_is : tile_at fabric site.x site.y ≡ Some s.tile = tile_there fabric x y site.x site.y s.tile (sym s.x_is) (sym s.y_is) s.tile_is in
      let at_site = site_bit line one.0 s.tile s.place here one.1 tile_is s.inside s.one in
      let at_bit : SomeOf (IsLineOne fabric) features site.x site.y bit = subst (λ n. SomeOf (IsLineOne fabric) features site.x site.y n) (sym s.bit_is) at_site in
      let at_x : SomeOf (IsLineOne fabric) features x site.y bit = subst (λ n. SomeOf (IsLineOne fabric) features n site.y bit) (sym s.x_is) at_bit in
      subst (λ n. SomeOf (IsLineOne fabric) features x n bit) (sym s.y_is) at_x

  -- a bit of a line of a cell is one of the cell
  field_to_cell : (line : ℕ × Site) (cell : PlainCell) (f : Feature) (x y bit first width : ℕ) → Contains i.cells line → IsAt packed.cells line.0 cell →
      said_of fabric f.name ≡ Some (said.OfBel (bel_field line.1.x line.1.y line.1.bel first width)) → first + f.high < 19 →
      ((place : ℕ) → first + f.low ≤ place → place ≤ first + f.high → table_bit f.value (place - (first + f.low)) ≡ true → cell_bit Resets cell place ≡ true) →
      IsLineOne fabric f x y bit → SomeOf (IsCellOne fabric packed) i.cells x y bit
  field_to_cell line cell f x y bit first width here at says small bits one =
      let site = line.1 in
      elim one [
        | inr p ↦ absurd (no_both {X = ⊥} fabric f.name (bel_field site.x site.y site.bel first width) (choice x y p.output p.input) says p.chooses.said_is)
        | inl o ↦ (
            let e = one_field fabric f.name (bel_field x y o.bel o.sets.first o.sets.width) (bel_field site.x site.y site.bel first width) o.sets.said_is says in
            let first_is : o.sets.first ≡ first = ap (λ (k : BelField). k.first) e in
            let low : first + f.low ≤ o.place = omega (arith, first_is, o.sets.above) in
            let high : o.place ≤ first + f.high = omega (arith, first_is, o.sets.below) in
            let value : table_bit f.value (o.place - (first + f.low)) ≡ true = ap (λ n. table_bit f.value (o.place - (n + f.low))) (sym first_is) ∙ o.sets.one in (
              line,
              here,
              (
                cell,
                at,
                record {
                  tile = o.tile;
                  place = o.place;
                  x_is = ap (λ (k : BelField). k.x) e;
                  y_is = ap (λ (k : BelField). k.y) e;
                  tile_is = o.tile_is;
                  bit_is = o.bit_is ∙ ap (λ (k : BelField). bits_before o.tile.bels k.bel + o.place) e;
                  inside = omega (arith, high, small);
                  one = bits o.place low high value;
                },
              ),
            ))
      ]

  line_to_cell : (line : ℕ × Site) (cell : PlainCell) (g : Feature) (number x y bit : ℕ) (tile : PlainTile) → Contains i.cells line → IsAt packed.cells line.0 cell → tile_at fabric line.1.x line.1.y ≡ Some tile →
      IsCellFeature Resets cell line.1 g → IsLineOne fabric (relined number g) x y bit → SomeOf (IsCellOne fabric packed) i.cells x y bit
  line_to_cell line cell _ number x y bit tile here at tile_is table_feature one =
      field_to_cell line cell (relined number (feature_of (field_name line.1 (codes "INIT")) 15 0 cell.table)) x y bit 0 16 here at (init_said line.1 tile tile_is (lut_at line tile here tile_is)) (omega arith)
      (λ place low high value.
      let few : place < 16 = omega (arith, high) in
      let in_table : cell_bit Resets cell place ≡ table_bit cell.table place = rw (lt-ltb place 16 few) refl in
      let back : place - (0 + 0) ≡ place = omega arith in
      in_table ∙ ap (table_bit cell.table) (sym back) ∙ value) one
  line_to_cell line cell _ number x y bit tile here at tile_is (latch_feature latch) one =
      field_to_cell line cell (relined number (feature_of (field_name line.1 (codes "FF")) 0 0 1)) x y bit 16 1 here at (ff_said line.1 tile tile_is (lut_at line tile here tile_is)) (omega arith)
      (λ place low high value.
      let is : place ≡ 16 = omega (arith, low, high) in
      ap (cell_bit Resets cell) is ∙ latch) one
  line_to_cell line cell _ number x y bit tile here at tile_is (reset_feature high_bit) one =
      field_to_cell line cell (relined number (feature_of (field_name line.1 (codes "SET_NORESET")) 0 0 1)) x y bit 18 1 here at (reset_said line.1 tile tile_is (lut_at line tile here tile_is)) (omega arith)
      (λ place low high value.
      let is : place ≡ 18 = omega (arith, low, high) in
      ap (cell_bit Resets cell) is ∙ high_bit) one

  -- ---- outputs

  wire_same : (a b : Wire) → a.0 ≡ b.0 → a ≡ b
  wire_same a b e = λ j. record { 0 = e j }

  -- an edge into an output of the switch matrix is of a pair
  from_pair : (x y output : ℕ) (tile : PlainTile) (edge : Edge) → tile_at fabric x y ≡ Some tile → Contains (in_order nat_eq (numbered_pairs tile)) output → edge.1.0 ≡ wire_index fabric x y output → IsStep fabric edge.0 edge.1 →
      (pair : Pair) × Contains tile.pairs pair × (pair.output ≡ output) × (edge.0.0 ≡ wire_index fabric x y pair.input)
  from_pair x y output tile edge tile_is in_it to_is step =
      let is_tile : IsTile tile = is_tile_at fabric x y tile tile_is tiles in
      let some = ordered_pair tile output in_it in
      let some_is : IsPair tile some.0 = of_all (IsPair tile) tile.pairs some.0 is_tile.pairs some.1 in
      let passes : wire_passes is_matrix_output tile output ≡ true = subst (λ n. wire_passes is_matrix_output tile n ≡ true) some.2 some_is.output in
      let few_out : output < wires_at fabric x y = omega (arith, passes_named is_matrix_output tile output passes, wires_of_tile fabric x y tile tile_is) in
      elim step [
        | inl p ↦ (
            let p_tile : IsTile p.tile = is_tile_at fabric p.x p.y p.tile p.tile_is tiles in
            let p_is : IsPair p.tile p.pair = of_all (IsPair p.tile) p.tile.pairs p.pair p_tile.pairs p.listed in
            let few : p.pair.output < wires_at fabric p.x p.y = omega (arith, passes_named is_matrix_output p.tile p.pair.output p_is.output, wires_of_tile fabric p.x p.y p.tile p.tile_is) in
            let places = one_place fabric x y output p.x p.y p.pair.output few_out few (sym to_is ∙ ap (λ (w : Wire). w.0) p.to_is) in
            let same : tile ≡ p.tile = one_tile fabric x y tile p.tile tile_is (tile_there fabric p.x p.y x y p.tile places.0 places.1 p.tile_is) in (
              p.pair,
              subst (λ (t : PlainTile). Contains t.pairs p.pair) (sym same) p.listed,
              sym places.2,
              ap (λ (w : Wire). w.0) p.from_is ∙ ap (λ n. wire_index fabric n p.y p.pair.input) (sym places.0) ∙ ap (λ n. wire_index fabric x n p.pair.input) (sym places.1),
            ))
        | inr j ↦ (
            let there = lands fabric edge.0 edge.1 tiles j in
            let plain = some_item (plain_wires tile) output (omega (arith, few_out, wires_of_tile fabric x y tile tile_is, wires_are_named tile)) in
            let index = wire_with_number fabric x y output tile plain.0 tile_is plain.1 in
            let same = one_wire fabric edge.1.0 x y there.x there.y plain.0 (dest_of there.row there.bit) (subst (λ n. IsIndexOf fabric n x y plain.0) (sym to_is) index) there.is in
            absurd (dest_no_output tile there.row there.bit (subst (λ (w : PlainWire). IsMatrixOutput tile w) same.2 (plain_output tile output plain.0 plain.1 passes))))
      ]

  -- an edge leads from the input of a pair to its output
  pub record Leads (pair : Choice) (edge : Edge) : Type 0 where
    pub to_is : edge.1.0 ≡ wire_index fabric pair.x pair.y pair.output
    pub from_is : edge.0.0 ≡ wire_index fabric pair.x pair.y pair.input
    pub few_out : pair.output < wires_at fabric pair.x pair.y
    pub few_in : pair.input < wires_at fabric pair.x pair.y

  -- the pair and the edge of a line
  pub record IsOutputLine (name : List ℕ) : Type 0 where
    pub pair : Choice
    pub edge : Edge
    pub tree : PlainTree
    pub tree_in : Contains i.trees tree
    pub edge_in : Contains tree.edges edge
    pub entered : edge_into i (wire_index fabric pair.x pair.y pair.output) ≡ Some edge
    pub leads : Leads pair edge
    pub says : said_of fabric name ≡ Some (said.OfPair pair)

  module _ (named : All IsNamed fabric.types) (prefixed : All HasPrefixes fabric.types) where
    of_type : (P : PlainTile → Type 0) (x y : ℕ) (tile : PlainTile) → All P fabric.types → tile_at fabric x y ≡ Some tile → P tile
    of_type P x y tile all is =
        let number = tile_type fabric x y tile is in
        of_all P fabric.types tile all (contains_at fabric.types number.0 tile number.1)

    the_pair_said : (x y output input : ℕ) (tile : PlainTile) (pair : Pair) → tile_at fabric x y ≡ Some tile → Contains tile.pairs pair → pair.output ≡ output → pair.input ≡ input →
        list_any (λ other. nat_eq other input) (matrix_inputs tile output) ≡ true → said_of fabric (pair_name fabric x y input output) ≡ Some (said.OfPair (choice x y output input))
    the_pair_said x y output input tile pair tile_is listed output_is input_is paired =
        pair_said fabric x y output input tile pair is_fabric tile_is (is_tile_at fabric x y tile tile_is tiles) (of_type IsNamed x y tile named tile_is) (of_type HasPrefixes x y tile prefixed tile_is) listed output_is input_is paired

    -- the input by its number behind the first wire of the place
    input_back : (x y input : ℕ) (edge : Edge) → edge.0.0 ≡ wire_index fabric x y input → edge.0.0 - wire_index fabric x y 0 ≡ input
    input_back x y input edge is = omega (arith, is)

    edge_found : (found : Option Edge) (x y output : ℕ) (g : Feature) → option_map (edge_feature fabric x y output) found ≡ Some g → (edge : Edge) × (found ≡ Some edge) × (edge_feature fabric x y output edge ≡ g)
    edge_found None x y output g e = absurd (never g e)
      where
        never : (f : Feature) → None ≡ Some f → ⊥
        never f e = cc
    edge_found (Some edge) x y output g e = (edge, refl, inner (edge_feature fabric x y output edge) g e)
      where
        inner : (a b : Feature) → Some a ≡ Some b → a ≡ b
        inner a b e = cc

    output_line : (x y : ℕ) (tile : PlainTile) (g : Feature) → tile_at fabric x y ≡ Some tile → Contains (filter_map (output_feature fabric i x y) (in_order nat_eq (numbered_pairs tile))) g → IsOutputLine g.name
    output_line x y tile g tile_is here =
        let o = from_found (output_feature fabric i x y) (in_order nat_eq (numbered_pairs tile)) g here in
        let output = o.0 in
        let index = wire_index fabric x y output in
        let edges : List Edge = flat_map (λ (t : PlainTree). t.edges) i.trees in
        let found = edge_found (edge_into i index) x y output g o.2 in
        let edge = found.0 in
        let test = found_in (λ (e : Edge). nat_eq e.1.0 index) edges edge found.1 in
        let to_is : edge.1.0 ≡ index = eqb-true edge.1.0 index test.1 in
        let tree = in_flat (λ (t : PlainTree). t.edges) i.trees edge test.0 in
        let pair = from_pair x y output tile edge tile_is o.1 to_is (step_of fabric packed fixed i legal tiles tree.0 edge tree.1 tree.2) in
        let input = pair.0.input in
        let is_tile : IsTile tile = is_tile_at fabric x y tile tile_is tiles in
        let is_pair : IsPair tile pair.0 = of_all (IsPair tile) tile.pairs pair.0 is_tile.pairs pair.1 in
        let paired : list_any (λ other. nat_eq other input) (matrix_inputs tile output) ≡ true = input_listed tile.pairs output input pair.0 pair.1 (ap (λ (n : ℕ). let p : ℕ × ℕ = (n, input) in p) pair.2) in
        let names = wires_of_tile fabric x y tile tile_is in
        record {
          pair = choice x y output input;
          edge = edge;
          tree = tree.0;
          tree_in = tree.1;
          edge_in = tree.2;
          entered = found.1;
          leads = record {
            to_is = to_is;
            from_is = pair.3;
            few_out = omega (arith, names, pair.2, passes_named _ tile pair.0.output is_pair.output);
            few_in = omega (arith, names, passes_named _ tile pair.0.input is_pair.input);
          };
          says = ap (λ (f : Feature). said_of fabric f.name) (sym found.2)
              ∙ ap (λ n. said_of fabric (pair_name fabric x y n output)) (input_back x y input edge pair.3)
              ∙ the_pair_said x y output input tile pair.0 tile_is pair.1 pair.2 refl paired;
        }

    -- a select bit of an edge is one of a line
    edge_to_line : (tree : PlainTree) (x y bit : ℕ) → Contains i.trees tree → IsTreeOne fabric tree x y bit → SomeOf (IsLineOne fabric) (design_features fabric packed i) x y bit
    edge_to_line tree x y bit tree_in one =
        let edge = one.0 in
        let e = one.2 in
        let index = wire_index fabric x y e.output in
        let edges : List Edge = flat_map (λ (t : PlainTree). t.edges) i.trees in
        let entered : edge_into i index ≡ Some edge =
        only_found (λ (other : Edge). nat_eq other.1.0 index) edges edge (into_flat (λ (t : PlainTree). t.edges) i.trees tree edge tree_in one.1) (eq-eqb edge.1.0 index e.output_is)
        (λ other there passes.
        let its_tree = in_flat (λ (t : PlainTree). t.edges) i.trees other there in
        one_edge fabric packed i legal.reached legal.nets legal.apart its_tree.0 tree other edge its_tree.1 its_tree.2 tree_in one.1 (wire_same other.1 edge.1 (eqb-true other.1.0 index passes ∙ sym e.output_is))) in
        let pair = pair_of_input e.tile.pairs e.output e.input e.selected.paired in
        let g = edge_feature fabric x y e.output edge in
        let listed : Contains (filter_map (output_feature fabric i x y) (in_order nat_eq (numbered_pairs e.tile))) g =
        into_found (output_feature fabric i x y) (in_order nat_eq (numbered_pairs e.tile)) e.output g (output_ordered e.tile e.output e.input e.selected.paired) (ap (option_map (edge_feature fabric x y e.output)) entered) in
        let there = into_design x y e.tile g e.tile_is (in_right _ _ g listed) in
        let says = ap (λ n. said_of fabric (pair_name fabric x y n e.output)) (input_back x y e.input edge e.input_is) ∙ the_pair_said x y e.output e.input e.tile pair.0 e.tile_is pair.1 pair.2 pair.3 e.selected.paired in (
          relined there.0 g,
          there.1,
          inr (record { tile = e.tile; output = e.output; input = e.input; tile_is = e.tile_is; chooses = record { said_is = says; some = λ z. absurd (omega (arith, z)) }; selected = e.selected }),
        )

    -- a bit of a line of an output is a select bit of an edge
    line_to_edge : (f : Feature) (x y bit : ℕ) → IsOutputLine f.name → IsLineOne fabric f x y bit → SomeOf (IsTreeOne fabric) i.trees x y bit
    line_to_edge f x y bit o one =
        elim one [
          | inl b ↦ absurd (no_both {X = ⊥} fabric f.name (bel_field x y b.bel b.sets.first b.sets.width) o.pair b.sets.said_is o.says)
          | inr p ↦ (
              let e = one_choice fabric f.name (choice x y p.output p.input) o.pair p.chooses.said_is o.says in
              let leads : Leads (choice x y p.output p.input) o.edge = subst (λ (c : Choice). Leads c o.edge) (sym e) o.leads in (
                o.tree,
                o.tree_in,
                (
                  o.edge,
                  o.edge_in,
                  record {
                    tile = p.tile;
                    output = p.output;
                    input = p.input;
                    tile_is = p.tile_is;
                    output_in = leads.few_out;
                    input_in = leads.few_in;
                    output_is = leads.to_is;
                    input_is = leads.from_is;
                    selected = p.selected;
                  },
                ),
              ))
        ]

    -- ---- all lines

    -- a line of the design is of a cell or of an output
    pub data IsDesignLine : Feature → Type 0 where
      of_a_cell : (line : ℕ × Site) (cell : PlainCell) (tile : PlainTile) (number : ℕ) (g : Feature) → Contains i.cells line → IsAt packed.cells line.0 cell → tile_at fabric line.1.x line.1.y ≡ Some tile → IsCellFeature Resets cell line.1 g →
          IsDesignLine (relined number g)
      of_an_output : (number : ℕ) (g : Feature) → IsOutputLine g.name → IsDesignLine (relined number g)

    site_line : (site : Site) (tile : PlainTile) (number : ℕ) (g : Feature) (found : Option PlainCell) → tile_at fabric site.x site.y ≡ Some tile → cell_on packed i.cells site ≡ found → Contains (cell_features Resets site found) g → IsDesignLine (relined number g)
    site_line site tile number g None tile_is on here = absurd (in_none g here)
    site_line site tile number g (Some cell) tile_is on here =
        let line = found_line site cell on in
        let feature : IsCellFeature Resets cell line.0.1 g = subst (λ (s : Site). IsCellFeature Resets cell s g) (sym line.2) (of_cell Resets site cell g here) in
        of_a_cell line.0 cell tile number g line.1 line.3 (subst (λ (s : Site). tile_at fabric s.x s.y ≡ Some tile) (sym line.2) tile_is) feature

    pub design_line : (f : Feature) → Contains (design_features fabric packed i) f → IsDesignLine f
    design_line f here =
        let n = from_numbered 1 (flat_map (tile_features fabric packed i) (placed_tiles fabric)) f here in
        let g = n.1 in
        let p = in_flat (tile_features fabric packed i) (placed_tiles fabric) g n.2 in
        let placed = p.0 in
        let tile_is = placed_there fabric placed p.1 in
        subst IsDesignLine n.3
        (elim (in_either (flat_map (λ bel. site_features packed i (site_in placed bel)) (counted (length placed.tile.bels) (λ bel. bel))) (filter_map (output_feature fabric i placed.x placed.y) (in_order nat_eq (numbered_pairs placed.tile))) g p.2) [
          | inl cells ↦ (
              let bel = in_flat (λ bel. site_features packed i (site_in placed bel)) (counted (length placed.tile.bels) (λ bel. bel)) g cells in
              let site = site_in placed bel.0 in
              site_line site placed.tile n.0 g (cell_on packed i.cells site) tile_is refl bel.2)
          | inr outputs ↦ of_an_output n.0 g (output_line placed.x placed.y placed.tile g tile_is outputs)
        ])

    line_to_design : {f : Feature} (x y bit : ℕ) → IsDesignLine f → IsLineOne fabric f x y bit → SomeOf (IsCellOne fabric packed) i.cells x y bit ⊎ SomeOf (IsTreeOne fabric) i.trees x y bit
    line_to_design x y bit (of_a_cell line cell tile number g here at tile_is feature) one = inl (line_to_cell line cell g number x y bit tile here at tile_is feature one)
    line_to_design x y bit (of_an_output number g o) one = inr (line_to_edge (relined number g) x y bit o one)

    -- an input that a line chooses is that of the edge
    pub record IsEntered (x y output input : ℕ) : Type 0 where
      pub edge : Edge
      pub entered : edge_into i (wire_index fabric x y output) ≡ Some edge
      pub from_is : edge.0.0 ≡ wire_index fabric x y input

    pub entered_by : {f : Feature} (x y output input : ℕ) → IsDesignLine f → Chooses fabric f x y output input → IsEntered x y output input
    entered_by x y output input (of_a_cell line cell tile number g here at tile_is feature) chooses =
        absurd (never line cell g tile here tile_is feature (choice x y output input) chooses.said_is)
      where
        never : (line : ℕ × Site) (cell : PlainCell) (g : Feature) (tile : PlainTile) → Contains i.cells line → tile_at fabric line.1.x line.1.y ≡ Some tile → IsCellFeature Resets cell line.1 g → (c : Choice) → said_of fabric g.name ≡ Some (said.OfPair c) → ⊥
        never line cell _ tile here tile_is table_feature c says = no_both {X = ⊥} fabric _ _ c (init_said line.1 tile tile_is (lut_at line tile here tile_is)) says
        never line cell _ tile here tile_is (latch_feature latch) c says = no_both {X = ⊥} fabric _ _ c (ff_said line.1 tile tile_is (lut_at line tile here tile_is)) says
        never line cell _ tile here tile_is (reset_feature high) c says = no_both {X = ⊥} fabric _ _ c (reset_said line.1 tile tile_is (lut_at line tile here tile_is)) says
    entered_by x y output input (of_an_output number g o) chooses =
        let e = one_choice fabric g.name (choice x y output input) o.pair chooses.said_is o.says in
        record {
          edge = o.edge;
          entered = ap (λ (c : Choice). edge_into i (wire_index fabric c.x c.y c.output)) e ∙ o.entered;
          from_is = o.leads.from_is ∙ ap (λ (c : Choice). wire_index fabric c.x c.y c.input) (sym e);
        }

    design_agrees : Agree fabric (design_features fabric packed i)
    design_agrees x y output input other first second first_in first_chooses second_in second_chooses =
        let a = entered_by x y output input (design_line first first_in) first_chooses in
        let b = entered_by x y output other (design_line second second_in) second_chooses in
        let same : a.edge ≡ b.edge = one a.edge b.edge (sym a.entered ∙ b.entered) in
        omega (arith, a.from_is, b.from_is, ap (λ (e : Edge). e.0.0) same)
      where
        one : (a b : Edge) → Some a ≡ Some b → a ≡ b
        one a b e = cc

    -- the bits of cells and edges are the bit map
    pub design_map : (blank cells bits : PlainBits) → ((x y bit : ℕ) → blank x y bit ≡ false) → Adds blank cells (SomeOf (IsCellOne fabric packed) i.cells) → Adds cells bits (SomeOf (IsTreeOne fabric) i.trees) →
        IsBitMapOf fabric (design_features fabric packed i) bits
    design_map blank cells bits none cell_ones tree_ones =
        let features = design_features fabric packed i in
        bit_map fabric features blank bits none
        (same_added blank bits (λ x y bit. SomeOf (IsCellOne fabric packed) i.cells x y bit ⊎ SomeOf (IsTreeOne fabric) i.trees x y bit) (SomeOf (IsLineOne fabric) features)
        (λ x y bit one. elim one [ inl c ↦ cell_to_line c.0 x y bit c.1 c.2 | inr t ↦ edge_to_line t.0 x y bit t.1 t.2 ])
        (λ x y bit one. line_to_design x y bit (design_line one.0 one.1) one.2)
        (both_added blank cells bits (SomeOf (IsCellOne fabric packed) i.cells) (SomeOf (IsTreeOne fabric) i.trees) cell_ones tree_ones))
        design_agrees
