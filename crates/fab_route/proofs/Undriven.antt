-- What the marks of driven wires tell of a wire.
use Rattle.std.proofs.Common.{◌≡◌, ◌↔◌, IsTrue, ℕ, ◌+◌, ◌*◌, ◌<◌, Bool, true, false, not, List, Vec, Global, map, length, get_or, Option, Some, option_map, slice_get, refl, sym, ap, ◌∙◌, subst, arith}
use Rattle.std.specs.Option.{option_map_or}
use Rattle.std.proofs.lemmas.Bool.{false≢true}
use Rattle.std.proofs.lemmas.Option.{same_Some, slice_get-map, get_or_from_slice_get}
use Rattle.std.proofs.lemmas.List.{length-map, get_or_default}
use Rattle.fab_model.specs.Tiles.{PlainTile, TileWire, tile_wires, wire_name, is_matrix_output}
use Rattle.fab_model.specs.Wires.{PlainWire, wire_of, plain_wires}
use Rattle.fab_model.specs.Grid.{PlainFabric, tile_at}
use Rattle.fab_model.proofs.Wires.{plain_wires_are_wires}
use Rattle.fab_fabric.specs.Fabric.{IsFabric, wires_at}
use Rattle.fab_fabric.specs.Wires.{wire_index, IsIndexOf}
use Rattle.fab_fabric.specs.declared.wire.Wire.{Wire}
use Rattle.fab_fabric.proofs.Numbered.{one_wire, some_item, wired_within, wires_of_tile, wires_are_named, wire_with_number}
use Rattle.fab_netlist.specs.Plain.{IsAt}
use Rattle.fab_netlist.proofs.Counts.{at_mapped}
use Rattle.fab_legal.proofs.StepLaws.{type_there}
use Rattle.fab_nodes_laws.specs.Nodes.{IsMatrixInput}
use Rattle.fab_nodes_laws.proofs.MatrixInputs.{is_driven}
use Rattle.fab_route.specs.inner.Numbers.{HaveDriven}

module _ (fabric : PlainFabric) (tables : List (Vec Bool Global)) (x y number place : ℕ) (few : number < wires_at fabric x y) (have : HaveDriven fabric.types tables) (found : Option ℕ) (is_fabric : IsFabric fabric)
    (read : slice_get fabric.grid (y * fabric.columns + x) ≡ Some found) (found_is : found ≡ Some place) where
  abbrev there : (tile : PlainTile) × IsAt fabric.types place tile × (tile_at fabric x y ≡ Some tile)
  there = let within = wired_within fabric x y number few in type_there fabric x y place found is_fabric within.0 within.1 read found_is

  abbrev tile : PlainTile
  tile = there.0

  abbrev marks_of : PlainTile → List Bool
  marks_of t = map is_matrix_output (tile_wires t)

  pub place_inside : place < length tables
  place_inside = omega (arith, there.1.0, as_many)
    where
      as_many : length tables ≡ length fabric.types
      as_many = sym (length-map tables (λ (v : Vec Bool Global). v.items)) ∙ ap (λ (l : List (List Bool)). length l) have ∙ length-map fabric.types marks_of

  module _ (table : Vec Bool Global) (at : table ≡ get_or tables place table) where
    table_is : table.items ≡ marks_of tile
    table_is =
        let first = at_mapped (λ (v : Vec Bool Global). v.items) tables place table (place_inside, sym at) in
        let second = at_mapped marks_of fabric.types place tile there.1 in
        sym first.1 ∙ ap (λ (l : List (List Bool)). get_or l place table.items) have ∙ get_or_default (map marks_of fabric.types) place table.items (marks_of tile) second.0 ∙ second.1

    abbrev plain : (p : PlainWire) × (slice_get (plain_wires tile) number ≡ Some p)
    plain = some_item (plain_wires tile) number (omega (arith, few, wires_of_tile fabric x y tile there.2, wires_are_named tile))

    both : Some (wire_of tile plain.0) ≡ option_map (λ (w : TileWire). Some w) (slice_get (tile_wires tile) number)
    both =
        sym (ap (option_map (wire_of tile)) plain.1) ∙ sym (slice_get-map (wire_of tile) (plain_wires tile) number) ∙ ap (λ ws. slice_get ws number) (plain_wires_are_wires tile)
        ∙ slice_get-map (λ (w : TileWire). Some w) (tile_wires tile) number

    names : length (tile_wires tile) ≡ wires_at fabric x y
    names = sym (length-map (tile_wires tile) wire_name) ∙ sym (wires_of_tile fabric x y tile there.2)

    marked : length table.items ≡ length (tile_wires tile)
    marked = ap (λ (l : List Bool). length l) table_is ∙ length-map (tile_wires tile) is_matrix_output

    pub number_inside : number < length table.items
    number_inside = omega (arith, few, names, marked)

    -- the mark of the wire tells whether it is driven
    mark_tells : (b : Bool) → b ≡ get_or table.items number b → is_driven tile plain.0 ≡ b
    mark_tells b is =
        let w = some_item (tile_wires tile) number (omega (arith, few, names)) in
        let wire_is : wire_of tile plain.0 ≡ Some w.0 = same_Some (wire_of tile plain.0) (Some w.0) (both ∙ ap (option_map (λ (v : TileWire). Some v)) w.1) in
        let listed : slice_get (marks_of tile) number ≡ Some (is_matrix_output w.0) = slice_get-map is_matrix_output (tile_wires tile) number ∙ ap (option_map is_matrix_output) w.1 in
        ap (λ (o : Option TileWire). option_map_or is_matrix_output o false) wire_is
        ∙ sym (is ∙ ap (λ (l : List Bool). get_or l number b) table_is ∙ get_or_from_slice_get (marks_of tile) number (is_matrix_output w.0) b listed)

    pub input_told : (wire : Wire) → wire.0 ≡ wire_index fabric x y number → (b : Bool) → b ≡ get_or table.items number b → IsTrue (not b) ↔ IsMatrixInput fabric wire
    input_told wire index b is = (forth, back)
      where
        own : IsIndexOf fabric wire.0 x y plain.0
        own = subst (λ (n : ℕ). IsIndexOf fabric n x y plain.0) (sym index) (wire_with_number fabric x y number tile plain.0 there.2 plain.1)

        negated : (c : Bool) → IsTrue (not c) → c ≡ false
        negated true e = absurd (false≢true e)
        negated false e = refl

        forth : IsTrue (not b) → IsMatrixInput fabric wire
        forth told = record {
          x = x;
          y = y;
          plain = plain.0;
          is_wire = own;
          undriven = ap (λ (t : PlainTile). is_driven t plain.0) (same_Some own.is_wire.tile tile (sym own.is_wire.tile_is ∙ there.2)) ∙ mark_tells b is ∙ negated b told;
        }

        back : IsMatrixInput fabric wire → IsTrue (not b)
        back i =
            let same = one_wire fabric wire.0 i.x i.y x y i.plain plain.0 i.is_wire own in
            let tile_is : i.is_wire.is_wire.tile ≡ tile =
            same_Some i.is_wire.is_wire.tile tile (sym i.is_wire.is_wire.tile_is ∙ ap (λ (a : ℕ). tile_at fabric a i.y) same.0 ∙ ap (λ (c : ℕ). tile_at fabric x c) same.1 ∙ there.2) in
            let undriven : b ≡ false = sym (mark_tells b is) ∙ sym (ap (λ (t : PlainTile). is_driven t plain.0) tile_is) ∙ sym (ap (is_driven i.is_wire.is_wire.tile) same.2) ∙ i.undriven in
            ap not undriven
