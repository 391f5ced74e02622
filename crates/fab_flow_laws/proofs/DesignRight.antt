-- The features of a legal implementation are right.
use Rattle.std.proofs.Common.{◌≡◌, ℕ, zero, suc, ◌-◌, ◌<◌, true, All, List, [], ◌∷◌, length, take, codes, Contains, Option, Some, None, is_some, nat_eq, slice_get, refl, sym, ap, ◌∙◌, subst, inl, inr, arith, eqb-true}
use Rattle.std.specs.List.{list_any, flat_map, filter_map}
use Rattle.std.specs.Option.{option_map}
use Rattle.fab_kinds.specs.declared.kind.Kind.{Kind}
use Rattle.fab_kinds.specs.declared.kind.Kind.TheVariants as kinds
use Rattle.fab_select.specs.Selection.{in_order}
use Rattle.fab_model.specs.declared.tiles.Bel.{Bel}
use Rattle.fab_model.specs.Tiles.{PlainTile, IsPair, counted, numbered_pairs, wire_passes, is_matrix_output}
use Rattle.fab_model.specs.Grid.{PlainFabric, tile_at}
use Rattle.fab_model.specs.Wires.{PlainWire, IsMatrixOutput, dest_of, plain_wires}
use Rattle.fab_model.specs.Drive.{matrix_inputs}
use Rattle.fab_fabric.specs.Fabric.{AreTiles, IsFabric, wires_at}
use Rattle.fab_fabric.specs.Wires.{IsIndexOf, wire_index}
use Rattle.fab_fabric.specs.declared.wire.Site.{Site}
use Rattle.fab_fabric.specs.declared.wire.Wire.{Wire}
use Rattle.fab_fabric.proofs.Numbered.{one_place, one_wire, some_item, wire_with_number, wires_are_named, wires_of_tile}
use Rattle.fab_fabric.proofs.Pairs.{passes_named}
use Rattle.fab_netlist.specs.Packed.{PlainCell, PlainPacked}
use Rattle.fab_netlist.proofs.Members.{first_in, first_or_later, in_none, later_in}
use Rattle.fab_implementation.specs.Plain.{Edge, Pad, PlainImplementation, PlainTree}
use Rattle.fab_implementation.specs.OnFabric.{kind_at}
use Rattle.fab_legal.specs.Legal.{IsLegal}
use Rattle.fab_legal.specs.Steps.{IsStep}
use Rattle.fab_legal.specs.Turns.{AreRight}
use Rattle.fab_legal.proofs.Members.{in_either}
use Rattle.fab_legal.proofs.Pins.{is_tile_at, tile_of_kind}
use Rattle.fab_legal.proofs.SinkLaw.{in_flat}
use Rattle.fab_fasm.specs.declared.feature.Feature.{Feature}
use Rattle.fab_use_defs.specs.fab_fabric_text_defs_Places.{PlacedTile, placed_tiles}
use Rattle.fab_use_defs.specs.fab_gen_tile_Words.{IsNamed}
use Rattle.fab_features.specs.Said.{TwoNumbers, bel_field, choice, field_of, said_of}
use Rattle.fab_features.specs.Naming.{HasPrefixes}
use Rattle.fab_features.specs.NameParts.{Names, of_field, of_pair}
use Rattle.fab_features.specs.Features.{Chooses}
use Rattle.fab_features.specs.Wrong.{IsFeature, IsRightFeature}
use Rattle.fab_features.specs.Design.{cell_features, cell_on, design_features, edge_feature, edge_into, feature_of, field_name, output_feature, pair_name, site_features, site_in, tile_features}
use Rattle.fab_features.specs.declared.said.Choice.{Choice}
use Rattle.fab_features.specs.declared.said.Said.{Said}
use Rattle.fab_features.specs.declared.said.Said.TheVariants as said
use Rattle.fab_features.proofs.CellLines.{IsCellFeature, latch_feature, reset_feature, line_of_cell, of_cell, site_same, table_feature}
use Rattle.fab_features.proofs.Configured.{line_kind, step_of}
use Rattle.fab_features.proofs.DesignLines.{found_in, from_found, from_numbered, ordered_pair, placed_there, plain_output, relined}
use Rattle.fab_features.proofs.PartsOfNames.{names_are_read}
use Rattle.fab_features.proofs.Saids.{no_both, one_choice}
use Rattle.fab_features.proofs.Setting.{one_tile, tile_there}
use Rattle.fab_features.proofs.Steps.{dest_no_output, input_listed, lands}
use Rattle.fab_features.proofs.Words.{of_all}

same_some : {X : Type 0} (a b : X) → Some a ≡ Some b → a ≡ b
same_some a b e = cc

-- ---- lists

from_taken : {X : Type 0} (xs : List X) (n : ℕ) (x : X) → Contains (take n xs) x → Contains xs x
from_taken [] zero x here = here
from_taken [] (suc n) x here = here
from_taken (y ∷ ys) zero x here = absurd (in_none x here)
from_taken (y ∷ ys) (suc n) x here = elim (first_or_later y (take n ys) x here) [
  | inl same ↦ first_in y ys x same
  | inr later ↦ later_in y ys x (from_taken ys n x later)
]

-- where each item is right behind any others of the list, all are right
right_behind_others : {X : Type 0} (IsRight : List X → X → Type 0) (xs : List X) →
    ((before : List X) (x : X) → ((other : X) → Contains before other → Contains xs other) → Contains xs x → IsRight before x) → AreRight IsRight xs
right_behind_others IsRight xs each = λ place x few at. each (take place xs) x (λ other here. from_taken xs place other here) (place, at.0, at.1)

module _ (fabric : PlainFabric) (is : IsFabric fabric) (tiles : AreTiles fabric) (free : All IsNamed fabric.types) (prefixed : All HasPrefixes fabric.types)
    (packed : PlainPacked) (fixed : List Pad) (i : PlainImplementation) (legal : IsLegal fabric packed fixed i) where
  -- what the parts of a name say
  read : (name : List ℕ) (what : Said) → Names fabric name what → said_of fabric name ≡ Some what
  read name what parts = (names_are_read fabric is tiles free prefixed name what).1 parts

  -- An edge enters the output from the input. It is a function of the output.
  record IsEntered (x y output input : ℕ) : Type 0 where
    edge : Edge
    entered : edge_into i (wire_index fabric x y output) ≡ Some edge
    from_is : edge.0.0 ≡ wire_index fabric x y input

  one_input : (x y output input other : ℕ) → IsEntered x y output input → IsEntered x y output other → other ≡ input
  one_input x y output input other first second =
      let same = same_some first.edge second.edge (sym first.entered ∙ second.entered) in
      omega (arith, first.from_is, second.from_is, ap (λ (e : Edge). e.0.0) same)

  -- The fabric has the feature, and an input that it chooses is that of an edge.
  record IsDesigned (feature : Feature) : Type 0 where
    known : IsFeature fabric feature
    chosen : (x y output input : ℕ) → Chooses fabric feature x y output input → IsEntered x y output input

  relined_designed : (line : ℕ) (feature : Feature) → IsDesigned feature → IsDesigned (relined line feature)
  relined_designed line feature designed = record {
    known = record { found = designed.known.found; said_is = designed.known.said_is; inside = designed.known.inside };
    chosen = λ x y output input chooses. designed.chosen x y output input (record { said_is = chooses.said_is; some = chooses.some });
  }

  -- ---- cells

  field_designed : (feature : Feature) (site : Site) (word : List ℕ) (tile : PlainTile) (found : Bel) (field : TwoNumbers) →
      feature.name ≡ field_name site word → feature.high < field.1 →
      tile_at fabric site.x site.y ≡ Some tile → slice_get tile.bels site.bel ≡ Some found → field_of found.kind word ≡ Some field → IsDesigned feature
  field_designed feature site word tile found field name_is inside tile_is bel_is field_is =
      let what = bel_field site.x site.y site.bel field.0 field.1 in
      let says : said_of fabric feature.name ≡ Some (said.OfBel what) =
      ap (said_of fabric) name_is ∙ read (field_name site word) (said.OfBel what) (of_field site word {field = field} tile_is bel_is field_is) in
      record {
        known = record { found = said.OfBel what; said_is = says; inside = inside };
        chosen = λ x y output input chooses. no_both fabric feature.name what (choice x y output input) says chooses.said_is;
      }

  cell_designed : (cell : PlainCell) (site : Site) (feature : Feature) (tile : PlainTile) (found : Bel) → tile_at fabric site.x site.y ≡ Some tile →
      slice_get tile.bels site.bel ≡ Some found →
      found.kind ≡ kinds.Lut4c → IsCellFeature (is_some packed.reset) cell site feature → IsDesigned feature
  cell_designed cell site _ tile found tile_is bel_is kind_is table_feature =
      field_designed (feature_of (field_name site (codes "INIT")) 15 0 cell.table) site (codes "INIT") tile found (0, 16) refl (omega arith) tile_is bel_is
      (ap (λ (k : Kind). field_of k (codes "INIT")) kind_is)
  cell_designed cell site _ tile found tile_is bel_is kind_is (latch_feature latch) =
      field_designed (feature_of (field_name site (codes "FF")) 0 0 1) site (codes "FF") tile found (16, 1) refl (omega arith) tile_is bel_is
      (ap (λ (k : Kind). field_of k (codes "FF")) kind_is)
  cell_designed cell site _ tile found tile_is bel_is kind_is (reset_feature high) =
      field_designed (feature_of (field_name site (codes "SET_NORESET")) 0 0 1) site (codes "SET_NORESET") tile found (18, 1) refl (omega arith) tile_is bel_is
      (ap (λ (k : Kind). field_of k (codes "SET_NORESET")) kind_is)

  -- the line of a cell gives it a site of its kind
  site_designed : (site : Site) (feature : Feature) (found : Option PlainCell) → cell_on packed i.cells site ≡ found →
      Contains (cell_features (is_some packed.reset) site found) feature → IsDesigned feature
  site_designed site feature None on here = absurd (in_none feature here)
  site_designed site feature (Some cell) on here =
      let line = line_of_cell packed _ cell on in
      let there = found_in _ i.cells line.0 line.1 in
      let same : line.0.1 ≡ site = site_same line.0.1 site there.1 in
      let kind = subst (λ (s : Site). kind_at fabric s ≡ Some kinds.Lut4c) same (line_kind fabric packed fixed i legal tiles line.0 there.0) in
      let tile = tile_of_kind site (tile_at fabric site.x site.y) kinds.Lut4c kind in
      cell_designed cell site feature tile.0 tile.2.0 tile.1 tile.2.1 tile.2.2 (of_cell (is_some packed.reset) site cell feature here)

  -- ---- outputs

  -- an edge into an output of the switch matrix of a tile is of a pair of the tile
  module _ (x y output : ℕ) (tile : PlainTile) (edge : Edge) (tile_is : tile_at fabric x y ≡ Some tile)
      (passes : wire_passes is_matrix_output tile output ≡ true) (to_is : edge.1.0 ≡ wire_index fabric x y output) where
    few_out : output < wires_at fabric x y
    few_out = omega (arith, passes_named is_matrix_output tile output passes, wires_of_tile fabric x y tile tile_is)

    input_of : IsStep fabric edge.0 edge.1 →
        (input : ℕ) × (edge.0.0 ≡ wire_index fabric x y input) × (list_any (λ other. nat_eq other input) (matrix_inputs tile output) ≡ true)
    input_of step = elim step [
      | inl p ↦ (
          let p_is : IsPair p.tile p.pair = of_all (IsPair p.tile) p.tile.pairs p.pair (is_tile_at fabric p.x p.y p.tile p.tile_is tiles).pairs p.listed in
          let few : p.pair.output < wires_at fabric p.x p.y =
          omega (arith, passes_named is_matrix_output p.tile p.pair.output p_is.output, wires_of_tile fabric p.x p.y p.tile p.tile_is) in
          let places = one_place fabric x y output p.x p.y p.pair.output few_out few (sym to_is ∙ ap (λ (w : Wire). w.0) p.to_is) in
          let same : tile ≡ p.tile = one_tile fabric x y tile p.tile tile_is (tile_there fabric p.x p.y x y p.tile places.0 places.1 p.tile_is) in
          let listed : Contains tile.pairs p.pair = subst (λ (t : PlainTile). Contains t.pairs p.pair) (sym same) p.listed in
          let input = p.pair.input in (
            input,
            ap (λ (w : Wire). w.0) p.from_is ∙ ap (λ n. wire_index fabric n p.y input) (sym places.0) ∙ ap (λ n. wire_index fabric x n input) (sym places.1),
            input_listed tile.pairs output input p.pair listed (ap (λ (n : ℕ). let numbers : ℕ × ℕ = (n, input) in numbers) (sym places.2)),
          ))
      | inr j ↦ (
          let there = lands fabric edge.0 edge.1 tiles j in
          let plain = some_item (plain_wires tile) output (omega (arith, few_out, wires_of_tile fabric x y tile tile_is, wires_are_named tile)) in
          let index = wire_with_number fabric x y output tile plain.0 tile_is plain.1 in
          let here : IsIndexOf fabric edge.1.0 x y plain.0 = subst (λ n. IsIndexOf fabric n x y plain.0) (sym to_is) index in
          let same = one_wire fabric edge.1.0 x y there.x there.y plain.0 (dest_of there.row there.bit) here there.is in
          let driven : IsMatrixOutput tile plain.0 = plain_output tile output plain.0 plain.1 passes in
          absurd (dest_no_output tile there.row there.bit (subst (λ (w : PlainWire). IsMatrixOutput tile w) same.2 driven)))
    ]

    edge_designed : edge_into i (wire_index fabric x y output) ≡ Some edge → IsStep fabric edge.0 edge.1 → IsDesigned (edge_feature fabric x y output edge)
    edge_designed entered step =
        let input = input_of step in
        let pair = choice x y output input.0 in
        let back : edge.0.0 - wire_index fabric x y 0 ≡ input.0 = omega (arith, input.1) in
        let feature = edge_feature fabric x y output edge in
        let says : said_of fabric feature.name ≡ Some (said.OfPair pair) =
        ap (λ n. said_of fabric (pair_name fabric x y n output)) back
        ∙ read (pair_name fabric x y input.0 output) (said.OfPair pair) (of_pair x y input.0 output tile_is input.2) in
        record {
          known = record { found = said.OfPair pair; said_is = says; inside = omega arith };
          chosen = λ x2 y2 output2 input2 chooses.
              let same = one_choice fabric feature.name pair (choice x2 y2 output2 input2) says chooses.said_is in
              record {
                edge = edge;
                entered = ap (λ (c : Choice). edge_into i (wire_index fabric c.x c.y c.output)) (sym same) ∙ entered;
                from_is = input.1 ∙ ap (λ (c : Choice). wire_index fabric c.x c.y c.input) same;
              };
        }

  edge_found : (found : Option Edge) (x y output : ℕ) (feature : Feature) → option_map (edge_feature fabric x y output) found ≡ Some feature →
      (edge : Edge) × (found ≡ Some edge) × (edge_feature fabric x y output edge ≡ feature)
  edge_found None x y output feature e = absurd cc
  edge_found (Some edge) x y output feature e = (edge, refl, same_some (edge_feature fabric x y output edge) feature e)

  output_designed : (x y : ℕ) (tile : PlainTile) (feature : Feature) → tile_at fabric x y ≡ Some tile →
      Contains (filter_map (output_feature fabric i x y) (in_order nat_eq (numbered_pairs tile))) feature →
      IsDesigned feature
  output_designed x y tile feature tile_is here =
      let o = from_found (output_feature fabric i x y) (in_order nat_eq (numbered_pairs tile)) feature here in
      let index = wire_index fabric x y o.0 in
      let edges : List Edge = flat_map (λ (t : PlainTree). t.edges) i.trees in
      let found = edge_found (edge_into i index) x y o.0 feature o.2 in
      let edge = found.0 in
      let test = found_in (λ (e : Edge). nat_eq e.1.0 index) edges edge found.1 in
      let tree = in_flat (λ (t : PlainTree). t.edges) i.trees edge test.0 in
      let step = step_of fabric packed fixed i legal tiles tree.0 edge tree.1 tree.2 in
      let some = ordered_pair tile o.0 o.1 in
      let is_pair : IsPair tile some.0 = of_all (IsPair tile) tile.pairs some.0 (is_tile_at fabric x y tile tile_is tiles).pairs some.1 in
      let passes : wire_passes is_matrix_output tile o.0 ≡ true = subst (λ n. wire_passes is_matrix_output tile n ≡ true) some.2 is_pair.output in
      subst IsDesigned found.2 (edge_designed x y o.0 tile edge tile_is passes (eqb-true edge.1.0 index test.1) found.1 step)

  -- ---- all of them

  tile_designed : (placed : PlacedTile) (feature : Feature) → tile_at fabric placed.x placed.y ≡ Some placed.tile →
      Contains (tile_features fabric packed i placed) feature → IsDesigned feature
  tile_designed placed feature tile_is here =
      elim (in_either (flat_map (λ bel. site_features packed i (site_in placed bel)) (counted (length placed.tile.bels) (λ bel. bel)))
      (filter_map (output_feature fabric i placed.x placed.y) (in_order nat_eq (numbered_pairs placed.tile))) feature here) [
        | inl cells ↦ (
            let bel = in_flat (λ bel. site_features packed i (site_in placed bel)) (counted (length placed.tile.bels) (λ bel. bel)) feature cells in
            site_designed (site_in placed bel.0) feature (cell_on packed i.cells (site_in placed bel.0)) refl bel.2)
        | inr outputs ↦ output_designed placed.x placed.y placed.tile feature tile_is outputs
      ]

  feature_designed : (feature : Feature) → Contains (design_features fabric packed i) feature → IsDesigned feature
  feature_designed feature here =
      let n = from_numbered 1 (flat_map (tile_features fabric packed i) (placed_tiles fabric)) feature here in
      let p = in_flat (tile_features fabric packed i) (placed_tiles fabric) n.1 n.2 in
      subst IsDesigned n.3 (relined_designed n.0 n.1 (tile_designed p.0 n.1 (placed_there fabric p.0 p.1) p.2))

  pub features_right : AreRight (IsRightFeature fabric) (design_features fabric packed i)
  features_right = right_behind_others (IsRightFeature fabric) (design_features fabric packed i) (λ before feature kept here.
      let designed = feature_designed feature here in
      record {
        known = designed.known;
        agrees = λ x y output input other earlier chooses there chose.
            one_input x y output input other (designed.chosen x y output input chooses)
            ((feature_designed earlier (kept earlier there)).chosen x y output other chose);
      })
