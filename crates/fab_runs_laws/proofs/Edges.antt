-- What holds of the first wire of an edge, and goes from each point to those that copy it, holds of the second.
use Rattle.std.proofs.Common.{◌≡◌, ℕ, zero, suc, ◌+◌, ◌-◌, ◌<◌, ◌≤◌, true, false, List, length, refl, sym, ap, ◌∙◌, subst, inl, inr, arith, Option, Some, None, option_and_then, slice_get, Contains}
use Rattle.std.proofs.lemmas.Bool.{cases_Bool, cases_lt, lt-ltb, le-ltb}
use Rattle.fab_meaning.specs.Points.{Point, point}
use Rattle.fab_model.specs.Rows.{is_jump, is_named, dest_bits, border_bits}
use Rattle.fab_model.specs.Tiles.{PlainTile}
use Rattle.fab_model.specs.Wires.{PlainWire, source_of, dest_of, IsMatrixOutput}
use Rattle.fab_model.specs.Grid.{PlainFabric, tile_at}
use Rattle.fab_model.specs.Joins.{RowPlace}
use Rattle.fab_model.specs.Cascade.{PlacedRow, placed_row, previous_row, passing_bits, walk_from, row_join_from, join_from}
use Rattle.fab_model.proofs.Crossings.{placed, standing_is_placed}
use Rattle.fab_model.proofs.Walks.{side_has_name}
use Rattle.fab_fabric.specs.Fabric.{AreTiles}
use Rattle.fab_fabric.specs.Wires.{IsIndexOf, row_place}
use Rattle.fab_fabric.specs.declared.wire.Wire.{Wire}
use Rattle.fab_netlist.specs.Packed.{PlainPacked}
use Rattle.fab_implementation.specs.Plain.{Edge, Pad, PlainTree, PlainImplementation}
use Rattle.fab_points_laws.specs.fab_legal_Legal.{IsLegal}
use Rattle.fab_points_laws.specs.fab_drives_laws_Points.{place_path, IsOnWay, end_bit, wire_between, begin_bit, before}
use Rattle.fab_points_laws.specs.fab_gen_tile_TileModule.{matrix_output_names}
use Rattle.fab_points_laws.specs.fab_tile_drives_laws_Stands.{matrix_path, name_of, wire_point}
use Rattle.fab_points_laws.specs.fab_use_defs_Design.{IsTreeWire}
use Rattle.fab_points_laws.specs.fab_use_defs_Ways as ways
use Rattle.fab_points_laws.specs.fab_use_defs_Ways.{Passes, IsTreeWay, end_port, begin_port}
use Rattle.fab_points_laws.specs.fab_use_defs_Sources as sources
use Rattle.fab_points_laws.specs.fab_use_defs_Sources.{shows, HasSource}
use Rattle.fab_points_laws.proofs.Places.{index_wire, tree_wire, outputs_there, left_tree, entered_tree}
use Rattle.fab_points_laws.proofs.Ways.{before_placed}
use Rattle.fab_points_laws.proofs.Origins.{OfPair, of_pair, of_join, edge_step, counted_there}
use Rattle.fab_points_laws.proofs.Covers.{dest_no_output}

-- a wire has it, wherever it stands
abbrev pub HasIt : PlainFabric → (Point → Type 0) → Wire → Type 0
HasIt fabric Q wire = (x y : ℕ) (tile : PlainTile) (plain : PlainWire) → IsIndexOf fabric wire.0 x y plain → tile_at fabric x y ≡ Some tile → Q (wire_point (place_path x y) tile plain)

module _ (fabric : PlainFabric) (packed : PlainPacked) (fixed : List Pad) (implementation : PlainImplementation) (are : AreTiles fabric) (legal : IsLegal fabric packed fixed implementation) where
  abbrev Tree : (x y : ℕ) → PlainTile → PlainWire → Type 0
  Tree x y tile plain = IsTreeWire fabric implementation x y tile plain

  module _ (Q : Point → Type 0) (along : (p q : Point) → HasSource fabric packed implementation p (shows q) → Q q → Q p) where
    module _ (tree : PlainTree) (edge : Edge) (listed : Contains implementation.trees tree) (among : Contains tree.edges edge) (has : HasIt fabric Q edge.0) where
      -- the port of a matrix output that the edge enters
      port_of_pair : (x y : ℕ) (tile : PlainTile) (plain : PlainWire) → IsIndexOf fabric edge.1.0 x y plain → tile_at fabric x y ≡ Some tile → OfPair fabric x y tile plain edge →
          Q (point (matrix_path (place_path x y)) (name_of tile plain) 0)
      port_of_pair x y tile plain index there b =
          let from : Tree x y tile b.input = left_tree fabric implementation tree edge x y tile b.input listed among there b.from in
          let some : 0 < length (matrix_output_names tile) = outputs_there tile plain (index_wire fabric edge.1.0 x y plain tile index there) b.output in
          along _ _ (sources.of_edge listed among there index b.output b.from)
          (along _ _ (sources.of_input from b.no_output some) (has x y tile b.input b.from there))

      along_pair : (x y : ℕ) (tile : PlainTile) (plain : PlainWire) → IsIndexOf fabric edge.1.0 x y plain → tile_at fabric x y ≡ Some tile → OfPair fabric x y tile plain edge →
          Q (wire_point (place_path x y) tile plain)
      along_pair x y tile plain index there b =
          let to : Tree x y tile plain = entered_tree fabric implementation tree edge x y tile plain listed among there index in
          along _ _ (sources.of_output to b.output) (port_of_pair x y tile plain index there b)

      -- a border bit that ends in the tree
      module _ (x y row bit : ℕ) (tile : PlainTile) (here : PlacedRow) (to : Tree x y tile (dest_of row bit)) (placed_is : placed_row fabric (row_place x y row) ≡ Some here)
          (no_jump : is_jump here.row.dir ≡ false) (found : RowPlace × ℕ) (from : IsIndexOf fabric edge.0.0 found.0.x found.0.y (source_of found.0.row found.1)) where
        way : (at : PlacedRow) (n : ℕ) → Passes fabric here bit at n → IsTreeWay fabric implementation at n
        way at n passes = record { x = x; y = y; row = row; bit = bit; tile = tile; here = here; wire = to; placed = placed_is; no_jump = no_jump; passes = passes }

        begins : (at previous : PlacedRow) (n : ℕ) → Passes fabric here bit at n → previous_row fabric at ≡ Some previous → passing_bits previous.row ≤ n →
            (previous.place, n - passing_bits previous.row) ≡ found → Q (begin_port previous n)
        begins at previous n passes is past ends =
            let m = n - passing_bits previous.row in
            let index : IsIndexOf fabric edge.0.0 previous.place.x previous.place.y (source_of previous.place.row m) =
            subst (λ (q : RowPlace × ℕ). IsIndexOf fabric edge.0.0 q.0.x q.0.y (source_of q.0.row q.1)) (sym ends) from in
            along _ _ (sources.beginning m (way at n passes) is (omega arith))
            (has previous.place.x previous.place.y previous.tile (source_of previous.place.row m) index (before_placed fabric at previous is).tile_is)

        -- the port at which a row before gives the bit, where the rest of the way has it
        begin_has : (fuel : ℕ) (at previous : PlacedRow) (n : ℕ) → Passes fabric here bit at n → previous_row fabric at ≡ Some previous → walk_from fabric (suc fuel) (Some previous) n ≡ Some found →
            (n < passing_bits previous.row → walk_from fabric fuel (previous_row fabric previous) (n + previous.row.count) ≡ Some found → Q (end_port previous (n + previous.row.count))) →
            Q (begin_port previous n)
        begin_has fuel at previous n passes is leads rest =
            elim (cases_lt n (passing_bits previous.row)) [
              | inl few ↦ (
                  let on : walk_from fabric fuel (previous_row fabric previous) (n + previous.row.count) ≡ Some found = (let test = lt-ltb n (passing_bits previous.row) few in rw test at leads) in
                  along _ _ (sources.passing_on (way at n passes) is few) (rest few on))
              | inr past ↦ (
                  let least : passing_bits previous.row ≤ n = omega (arith, past) in
                  let e : Some (previous.place, n - passing_bits previous.row) ≡ Some found = (let over = le-ltb n (passing_bits previous.row) least in rw over at leads) in
                  begins at previous n passes is least cc)
            ]

        walk : (fuel : ℕ) (at : PlacedRow) (n : ℕ) (previous : Option PlacedRow) → Passes fabric here bit at n → previous_row fabric at ≡ previous →
            walk_from fabric fuel previous n ≡ Some found → Q (end_port at n)
        walk fuel at n None passes is leads = cc
        walk zero at n (Some previous) passes is leads = cc
        walk (suc fuel) at n (Some previous) passes is leads =
            along _ _ (sources.into (way at n passes) is)
            (along _ _ (sources.across (way at n passes) is)
            (begin_has fuel at previous n passes is leads (λ few on. walk fuel previous (n + previous.row.count) (previous_row fabric previous) (ways.came passes is few) refl on)))

        rest_has : (fuel : ℕ) (at previous : PlacedRow) (n : ℕ) → Passes fabric here bit at n → previous_row fabric at ≡ Some previous →
            n < passing_bits previous.row → walk_from fabric fuel (previous_row fabric previous) (n + previous.row.count) ≡ Some found → Q (end_port previous (n + previous.row.count))
        rest_has fuel at previous n passes is few on = walk fuel previous (n + previous.row.count) (previous_row fabric previous) (ways.came passes is few) refl on

        begin_there : (fuel : ℕ) (at previous : PlacedRow) (n : ℕ) → Passes fabric here bit at n → previous_row fabric at ≡ Some previous → walk_from fabric fuel (Some previous) n ≡ Some found → Q (begin_port previous n)
        begin_there zero at previous n passes is leads = cc
        begin_there (suc fuel) at previous n passes is leads = begin_has fuel at previous n passes is leads (rest_has fuel at previous n passes is)

        walk_less : (fuel : ℕ) (previous : PlacedRow) (n : ℕ) → walk_from fabric fuel (Some previous) n ≡ Some found → n < passing_bits previous.row →
            (less : ℕ) × (walk_from fabric less (previous_row fabric previous) (n + previous.row.count) ≡ Some found)
        walk_less zero previous n leads few = cc
        walk_less (suc fuel) previous n leads few = (let passes = lt-ltb n (passing_bits previous.row) few in (fuel, rw passes at leads))

        -- each point of the way has it
        pub way_has : (fuel : ℕ) (at : PlacedRow) (n : ℕ) (p : Point) → Passes fabric here bit at n → walk_from fabric fuel (previous_row fabric at) n ≡ Some found → IsOnWay fabric at n p → Q p
        way_has fuel at n p passes leads end_bit = walk fuel at n (previous_row fabric at) passes refl leads
        way_has fuel at n p passes leads (wire_between {here} {previous} is) =
            along _ _ (sources.across (way at n passes) is)
            (begin_there fuel at previous n passes is (ap (λ o. walk_from fabric fuel o n) (sym is) ∙ leads))
        way_has fuel at n p passes leads (begin_bit {here} {previous} is) = begin_there fuel at previous n passes is (ap (λ o. walk_from fabric fuel o n) (sym is) ∙ leads)
        way_has fuel at n p passes leads (before {here} {previous} is few rest) =
            let on = walk_less fuel previous n (ap (λ o. walk_from fabric fuel o n) (sym is) ∙ leads) few in
            way_has on.0 previous (n + previous.row.count) p (ways.came passes is few) on.1 rest

      same_place : {X : Type 0} {a b : X} → Some a ≡ Some b → a ≡ b
      same_place is = cc

      along_join : (x y row bit : ℕ) (tile : PlainTile) → IsIndexOf fabric edge.1.0 x y (dest_of row bit) → tile_at fabric x y ≡ Some tile →
          (found : RowPlace × ℕ) → IsIndexOf fabric edge.0.0 found.0.x found.0.y (source_of found.0.row found.1) → join_from fabric (row_place x y row) bit ≡ Some found →
          Q (wire_point (place_path x y) tile (dest_of row bit))
      along_join x y row bit tile index there found from joined =
          let to : Tree x y tile (dest_of row bit) = entered_tree fabric implementation tree edge x y tile (dest_of row bit) listed among there index in
          let at = counted_there dest_bits (slice_get tile.rows row) bit (tree_wire fabric implementation x y tile (dest_of row bit) to) in
          let here = placed (row_place x y row) tile at.0 in
          let placed_is : placed_row fabric (row_place x y row) ≡ Some here = standing_is_placed fabric here (record { tile_is = there; row_is = at.1 }) in
          let by_row : row_join_from fabric bit here ≡ Some found = sym (ap (option_and_then (row_join_from fabric bit)) placed_is) ∙ joined in
          elim (cases_Bool (is_jump at.0.dir)) [
            | inl jumps ↦ elim (cases_Bool (is_named at.0.source)) [
              | inl named ↦ (
                  let dest_named : is_named at.0.dest ≡ true = side_has_name at.0 at.0.dest at.0.source bit at.2 in
                  let own : row_join_from fabric bit here ≡ Some (row_place x y row, bit) = rw (jumps, named, dest_named) refl in
                  let e : (row_place x y row, bit) ≡ found = same_place (sym own ∙ by_row) in
                  let begin : IsIndexOf fabric edge.0.0 x y (source_of row bit) =
                  subst (λ (q : RowPlace × ℕ). IsIndexOf fabric edge.0.0 q.0.x q.0.y (source_of q.0.row q.1)) {x = found} {y = (row_place x y row, bit)} (sym e) from in
                  along _ _ (sources.jump_bit to at.1 jumps named) (has x y tile (source_of row bit) begin there))
              | inr bare ↦ (let none : row_join_from fabric bit here ≡ None = rw (jumps, bare) refl in let e : None ≡ Some found = sym none ∙ by_row in cc)
            ]
            | inr no_jump ↦ (
                let leads : walk_from fabric (border_bits at.0) (previous_row fabric here) bit ≡ Some found = (let e : row_join_from fabric bit here ≡ walk_from fabric (border_bits at.0) (previous_row fabric here) bit = rw no_jump refl in sym e ∙ by_row) in
                along _ _ (sources.end_bit to placed_is no_jump)
                (walk x y row bit tile here to placed_is no_jump found from (border_bits at.0) here bit (previous_row fabric here) ways.ends refl leads))
          ]

      pub along_edge : HasIt fabric Q edge.1
      along_edge x y tile plain index there =
          elim (edge_step fabric packed fixed implementation are legal x y tile plain there tree edge listed among index) [
            | inl p ↦ along_pair x y tile plain index there (of_pair fabric packed fixed implementation are legal x y tile plain there edge index p)
            | inr p ↦ (
                let b = of_join fabric packed fixed implementation are legal x y tile plain there edge index p in
                subst (λ w. Q (wire_point (place_path x y) tile w)) (sym b.plain_is)
                (along_join x y b.row b.bit tile (subst (λ w. IsIndexOf fabric edge.1.0 x y w) b.plain_is index) there (row_place b.from_x b.from_y b.from_row, b.source) b.from b.joined))
          ]

      -- the port of a matrix output that the edge enters has it
      pub port_along : (x y : ℕ) (tile : PlainTile) (plain : PlainWire) → IsIndexOf fabric edge.1.0 x y plain → tile_at fabric x y ≡ Some tile → IsMatrixOutput tile plain →
          Q (point (matrix_path (place_path x y)) (name_of tile plain) 0)
      port_along x y tile plain index there output =
          elim (edge_step fabric packed fixed implementation are legal x y tile plain there tree edge listed among index) [
            | inl p ↦ port_of_pair x y tile plain index there (of_pair fabric packed fixed implementation are legal x y tile plain there edge index p)
            | inr p ↦ (let b = of_join fabric packed fixed implementation are legal x y tile plain there edge index p in absurd (dest_no_output tile b.row b.bit (subst (IsMatrixOutput tile) b.plain_is output)))
          ]
