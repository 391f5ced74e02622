-- The features of a legal implementation can be spelled.
use Rattle.std.proofs.Common.{◌≡◌, ℕ, ◌-◌, ◌<◌, Bool, true, All, List, length, Contains, Option, Some, None, is_some, nat_eq, codes, refl, sym, ap, subst, ◌∙◌, inl, inr, arith, eqb-true}
use Rattle.std.specs.List.{flat_map, filter_map}
use Rattle.std.specs.Option.{option_map}
use Rattle.std.proofs.lemmas.List.Elements.{All-contains, All-contains_itself}
use Rattle.std.proofs.lemmas.Option.{slice_get_within, get_or_from_slice_get}
use Rattle.fab_select.specs.Selection.{in_order}
use Rattle.fab_model.specs.Grid.{PlainFabric, tile_at}
use Rattle.fab_model.specs.Tiles.{IsPair, PlainTile, counted, is_matrix_output, numbered_pairs, wire_passes}
use Rattle.fab_model.specs.Wires.{IsMatrixOutput, PlainWire, dest_of, plain_wires}
use Rattle.fab_fabric.specs.Fabric.{AreTiles, IsFabric, wires_at}
use Rattle.fab_fabric.specs.Wires.{IsIndexOf, wire_index}
use Rattle.fab_fabric.specs.declared.wire.Site.{Site}
use Rattle.fab_fabric.specs.declared.wire.Wire.{Wire}
use Rattle.fab_fabric.proofs.Numbered.{one_place, one_wire, some_item, wire_with_number, wires_are_named, wires_of_tile}
use Rattle.fab_fabric.proofs.Pairs.{passes_named}
use Rattle.fab_netlist.specs.Packed.{PlainCell, PlainPacked}
use Rattle.fab_netlist.proofs.Members.{in_none}
use Rattle.fab_implementation.specs.Plain.{Edge, Pad, PlainImplementation, PlainTree}
use Rattle.fab_legal.specs.Legal.{IsLegal}
use Rattle.fab_legal.specs.Steps.{IsStep}
use Rattle.fab_legal.proofs.Members.{in_either}
use Rattle.fab_legal.proofs.Pins.{is_tile_at}
use Rattle.fab_legal.proofs.SinkLaw.{in_flat}
use Rattle.fab_fabric_text_defs.specs.Places.{PlacedTile, placed_tiles}
use Rattle.fab_fasm.specs.declared.feature.Feature.{Feature}
use Rattle.fab_fasm.specs.Printing.{HasSpelling}
use Rattle.fab_features.specs.Design.{cell_features, cell_on, design_features, edge_feature, edge_into, output_feature, site_features, site_in, tile_features}
use Rattle.fab_features.proofs.CellLines.{IsCellFeature, latch_feature, line_of_cell, of_cell, reset_feature, table_feature}
use Rattle.fab_features.proofs.Configured.{step_of}
use Rattle.fab_features.proofs.DesignLines.{found_in, from_found, from_numbered, ordered_pair, placed_there, plain_output, relined}
use Rattle.fab_features.proofs.Steps.{dest_no_output, lands}
use Rattle.fab_features.proofs.Tables.{few_bels}
use Rattle.fab_features.proofs.Words.{from_counted}
use Rattle.fab_spelled_designs_laws.proofs.FeatureNames.{field_spelled, pair_spelled}
use Rattle.fab_spelled_designs_laws.proofs.Written.{HasWords, name_named}

same_some : {X : Type 0} (a b : X) → Some a ≡ Some b → a ≡ b
same_some a b e = cc

relined_spelled : (line : ℕ) (feature : Feature) → HasSpelling feature → HasSpelling (relined line feature)
relined_spelled line feature has = record { named = has.named; ordered = has.ordered; bounded = has.bounded; narrow = has.narrow; fitting = has.fitting }

-- ---- cells

cell_feature_spelled : (resets : Bool) (cell : PlainCell) (site : Site) (feature : Feature) → cell.table < 65536 → site.bel < 26 → IsCellFeature resets cell site feature → HasSpelling feature
cell_feature_spelled resets cell site _ small few table_feature =
    record { named = field_spelled site (codes "INIT") few refl; ordered = omega arith; bounded = omega arith; narrow = omega arith; fitting = small }
cell_feature_spelled resets cell site _ small few (latch_feature latch) =
    record { named = field_spelled site (codes "FF") few refl; ordered = omega arith; bounded = omega arith; narrow = omega arith; fitting = omega arith }
cell_feature_spelled resets cell site _ small few (reset_feature high) =
    record { named = field_spelled site (codes "SET_NORESET") few refl; ordered = omega arith; bounded = omega arith; narrow = omega arith; fitting = omega arith }

module _ (fabric : PlainFabric) (is : IsFabric fabric) (tiles : AreTiles fabric) (words : All HasWords fabric.types) (packed : PlainPacked)
    (tables : All (λ cell. cell.table < 65536) packed.cells) (fixed : List Pad) (i : PlainImplementation) (legal : IsLegal fabric packed fixed i) where
  site_spelled : (site : Site) (feature : Feature) (found : Option PlainCell) → site.bel < 26 → cell_on packed i.cells site ≡ found → Contains (cell_features (is_some packed.reset) site found) feature → HasSpelling feature
  site_spelled site feature None few on here = absurd (in_none feature here)
  site_spelled site feature (Some cell) few on here =
      let line = line_of_cell packed _ cell on in
      let number = line.0.0 in
      let small : cell.table < 65536 =
      subst (λ (c : PlainCell). c.table < 65536) (get_or_from_slice_get packed.cells number cell cell line.2) (tables number cell (slice_get_within packed.cells number cell line.2)) in
      cell_feature_spelled (is_some packed.reset) cell site feature small few (of_cell (is_some packed.reset) site cell feature here)

  -- ---- outputs

  -- an edge into an output of the switch matrix of a tile leaves a wire of the tile
  module _ (x y output : ℕ) (tile : PlainTile) (edge : Edge) (tile_is : tile_at fabric x y ≡ Some tile) (passes : wire_passes is_matrix_output tile output ≡ true)
      (to_is : edge.1.0 ≡ wire_index fabric x y output) where
    few_out : output < wires_at fabric x y
    few_out = omega (arith, passes_named is_matrix_output tile output passes, wires_of_tile fabric x y tile tile_is)

    from_input : IsStep fabric edge.0 edge.1 → edge.0.0 - wire_index fabric x y 0 < wires_at fabric x y
    from_input step = elim step [
      | inl p ↦ (
          let p_is : IsPair p.tile p.pair = All-contains (IsPair p.tile) p.tile.pairs p.pair (is_tile_at fabric p.x p.y p.tile p.tile_is tiles).pairs p.listed in
          let names = wires_of_tile fabric p.x p.y p.tile p.tile_is in
          let few : p.pair.output < wires_at fabric p.x p.y = omega (arith, passes_named is_matrix_output p.tile p.pair.output p_is.output, names) in
          let few_in : p.pair.input < wires_at fabric p.x p.y = omega (arith, passes_named _ p.tile p.pair.input p_is.input, names) in
          let places = one_place fabric x y output p.x p.y p.pair.output few_out few (sym to_is ∙ ap (λ (w : Wire). w.0) p.to_is) in
          let there : edge.0.0 - wire_index fabric p.x p.y 0 < wires_at fabric p.x p.y = omega (arith, few_in, ap (λ (w : Wire). w.0) p.from_is) in
          let in_column = subst (λ (n : ℕ). edge.0.0 - wire_index fabric n p.y 0 < wires_at fabric n p.y) (sym places.0) there in
          subst (λ (n : ℕ). edge.0.0 - wire_index fabric x n 0 < wires_at fabric x n) (sym places.1) in_column)
      | inr j ↦ (
          let there = lands fabric edge.0 edge.1 tiles j in
          let plain = some_item (plain_wires tile) output (omega (arith, few_out, wires_of_tile fabric x y tile tile_is, wires_are_named tile)) in
          let index = wire_with_number fabric x y output tile plain.0 tile_is plain.1 in
          let same = one_wire fabric edge.1.0 x y there.x there.y plain.0 (dest_of there.row there.bit) (subst (λ n. IsIndexOf fabric n x y plain.0) (sym to_is) index) there.is in
          absurd (dest_no_output tile there.row there.bit (subst (λ (w : PlainWire). IsMatrixOutput tile w) same.2 (plain_output tile output plain.0 plain.1 passes))))
    ]

    edge_spelled : IsStep fabric edge.0 edge.1 → HasSpelling (edge_feature fabric x y output edge)
    edge_spelled step =
        let from = name_named fabric words x y (edge.0.0 - wire_index fabric x y 0) (from_input step) in
        let to = name_named fabric words x y output few_out in
        record {
          named = pair_spelled fabric x y (edge.0.0 - wire_index fabric x y 0) output from to;
          ordered = omega arith;
          bounded = omega arith;
          narrow = omega arith;
          fitting = omega arith;
        }

  edge_found : (found : Option Edge) (x y output : ℕ) (feature : Feature) → option_map (edge_feature fabric x y output) found ≡ Some feature →
      (edge : Edge) × (found ≡ Some edge) × (edge_feature fabric x y output edge ≡ feature)
  edge_found None x y output feature e = absurd cc
  edge_found (Some edge) x y output feature e = (edge, refl, same_some (edge_feature fabric x y output edge) feature e)

  output_spelled : (x y : ℕ) (tile : PlainTile) (feature : Feature) → tile_at fabric x y ≡ Some tile → Contains (filter_map (output_feature fabric i x y) (in_order nat_eq (numbered_pairs tile))) feature →
      HasSpelling feature
  output_spelled x y tile feature tile_is here =
      let o = from_found (output_feature fabric i x y) (in_order nat_eq (numbered_pairs tile)) feature here in
      let index = wire_index fabric x y o.0 in
      let edges : List Edge = flat_map (λ (t : PlainTree). t.edges) i.trees in
      let found = edge_found (edge_into i index) x y o.0 feature o.2 in
      let edge = found.0 in
      let test = found_in (λ (e : Edge). nat_eq e.1.0 index) edges edge found.1 in
      let tree = in_flat (λ (t : PlainTree). t.edges) i.trees edge test.0 in
      let step = step_of fabric packed fixed i legal tiles tree.0 edge tree.1 tree.2 in
      let some = ordered_pair tile o.0 o.1 in
      let is_pair : IsPair tile some.0 = All-contains (IsPair tile) tile.pairs some.0 (is_tile_at fabric x y tile tile_is tiles).pairs some.1 in
      let passes : wire_passes is_matrix_output tile o.0 ≡ true = subst (λ n. wire_passes is_matrix_output tile n ≡ true) some.2 is_pair.output in
      subst HasSpelling found.2 (edge_spelled x y o.0 tile edge tile_is passes (eqb-true edge.1.0 index test.1) step)

  -- ---- all of them

  tile_spelled : (placed : PlacedTile) (feature : Feature) → tile_at fabric placed.x placed.y ≡ Some placed.tile → Contains (tile_features fabric packed i placed) feature → HasSpelling feature
  tile_spelled placed feature tile_is here =
      elim (in_either (flat_map (λ bel. site_features packed i (site_in placed bel)) (counted (length placed.tile.bels) (λ bel. bel)))
      (filter_map (output_feature fabric i placed.x placed.y) (in_order nat_eq (numbered_pairs placed.tile))) feature here) [
        | inl cells ↦ (
            let bel = in_flat (λ bel. site_features packed i (site_in placed bel)) (counted (length placed.tile.bels) (λ bel. bel)) feature cells in
            let number = from_counted (length placed.tile.bels) (λ bel. bel) bel.0 bel.1 in
            let few : bel.0 < 26 = omega (arith, number.1, number.2, few_bels fabric placed.x placed.y placed.tile is tile_is) in
            site_spelled (site_in placed bel.0) feature (cell_on packed i.cells (site_in placed bel.0)) few refl bel.2)
        | inr outputs ↦ output_spelled placed.x placed.y placed.tile feature tile_is outputs
      ]

  feature_spelled : (feature : Feature) → Contains (design_features fabric packed i) feature → HasSpelling feature
  feature_spelled feature here =
      let n = from_numbered 1 (flat_map (tile_features fabric packed i) (placed_tiles fabric)) feature here in
      let p = in_flat (tile_features fabric packed i) (placed_tiles fabric) n.1 n.2 in
      subst HasSpelling n.3 (relined_spelled n.0 n.1 (tile_spelled p.0 n.1 (placed_there fabric p.0 p.1) p.2))

  pub features_spelled : All HasSpelling (design_features fabric packed i)
  features_spelled = λ k feature few. feature_spelled _ (All-contains_itself (design_features fabric packed i) k feature few)
