-- The edges of a fabric by the numbers of wires: where those of a wire lead, and where those to a wire come from.
use Rattle.std.specs.Prelude.{ℕ, ◌+◌, ◌-◌, Bool, true, false, ◌&&◌, List, [], ◌∷◌, ◌++◌, map, filter, get_or, nat_eq, nat_le, nat_lt, option_to_list, option_and_then, slice_get, Option, Some, None, if◌then◌else◌}
use Rattle.std.specs.List.{flat_map}
use Rattle.fab_select.specs.declared.pair.Pair.{Pair}
use Rattle.fab_select.specs.Selection.{firsts}
use Rattle.fab_legal.specs.fab_model.specs.Tiles.{PlainTile, counted}
use Rattle.fab_legal.specs.fab_model.specs.Wires.{plain_wires}
use Rattle.fab_legal.specs.fab_model.specs.Grid.{PlainFabric, tile_at}
use Rattle.fab_legal.specs.fab_fabric.specs.Wires.{wire_index, numbered_wire, wire_join_to, wire_join_from}
use Rattle.fab_legal.specs.fab_fabric.specs.declared.wire.Wire.{Wire}
use Rattle.fab_legal.specs.fab_fabric.specs.Fabric.{wires_at}

-- ---- the place of a wire

-- whether the wire with this number is one of the tile at a place
abbrev pub stands_at : PlainFabric → (index x y : ℕ) → Bool
stands_at fabric index x y = nat_le (wire_index fabric x y 0) index && nat_lt index (wire_index fabric x y 0 + wires_at fabric x y)

-- what is listed for the place of a wire; nothing, where no wire has the number
abbrev pub at_place : {X : Type 0} → PlainFabric → (index : ℕ) → (listed : (x y : ℕ) → List X) → List X
at_place {X} fabric index listed =
    flat_map (λ x. flat_map (λ y. if stands_at fabric index x y then listed x y else []) (counted fabric.rows (λ y. y))) (counted fabric.columns (λ x. x))

-- the matrix name number that the wire with this number has in the tile at its place
abbrev pub number_in : PlainFabric → (index x y : ℕ) → ℕ
number_in fabric index x y = index - wire_index fabric x y 0

-- the column, the row and the matrix name number of a wire
abbrev pub place_of : PlainFabric → (index : ℕ) → ℕ × ℕ × ℕ
place_of fabric index = get_or (at_place fabric index (λ x y. (x, y, number_in fabric index x y) ∷ [])) 0 (0, 0, 0)

-- ---- where edges lead

-- the outputs that pairs join to an input, each once, in the order of the pairs
abbrev pub outputs_of : List Pair → (input : ℕ) → List ℕ
outputs_of pairs input = firsts nat_eq (map (λ pair. pair.output) (filter (λ pair. nat_eq pair.input input) pairs))

-- the wire of a place with a matrix name number
abbrev pub wire_at : PlainFabric → (x y number : ℕ) → Wire
wire_at fabric x y number = numbered_wire (wire_index fabric x y number)

-- the wire to which a wire of a tile is joined
abbrev pub join_after : PlainFabric → (x y number : ℕ) → PlainTile → Option Wire
join_after fabric x y number tile = option_and_then (wire_join_to fabric x y) (slice_get (plain_wires tile) number)

-- the wires to which the edges of a wire lead: those of pairs in their order, then that of the join
abbrev pub ends_in : PlainFabric → (x y number : ℕ) → Option PlainTile → List Wire
ends_in fabric x y number None = []
ends_in fabric x y number (Some tile) = map (wire_at fabric x y) (outputs_of tile.pairs number) ++ option_to_list (join_after fabric x y number tile)

abbrev pub ends_at : PlainFabric → (x y number : ℕ) → List Wire
ends_at fabric x y number = ends_in fabric x y number (tile_at fabric x y)

abbrev pub ends : PlainFabric → (index : ℕ) → List Wire
ends fabric index = at_place fabric index (λ x y. ends_at fabric x y (number_in fabric index x y))

-- ---- where edges come from

abbrev pub swapped : Pair → Pair
swapped pair = record { output = pair.input; input = pair.output }

-- the pairs of a tile, or these turned round
abbrev pub turned_pairs : (turned : Bool) → List Pair → List Pair
turned_pairs false pairs = pairs
turned_pairs true pairs = map swapped pairs

-- the wire that is joined to a wire of a tile
abbrev pub join_before : PlainFabric → (x y number : ℕ) → PlainTile → Option Wire
join_before fabric x y number tile = option_and_then (wire_join_from fabric x y) (slice_get (plain_wires tile) number)

-- the wires from which edges lead to a wire: those of pairs in their order, then that of the join
abbrev pub origins_in : PlainFabric → (x y number : ℕ) → Option PlainTile → List Wire
origins_in fabric x y number None = []
origins_in fabric x y number (Some tile) =
    map (wire_at fabric x y) (outputs_of (turned_pairs true tile.pairs) number) ++ option_to_list (join_before fabric x y number tile)

abbrev pub origins_at : PlainFabric → (x y number : ℕ) → List Wire
origins_at fabric x y number = origins_in fabric x y number (tile_at fabric x y)

abbrev pub origins : PlainFabric → (index : ℕ) → List Wire
origins fabric index = at_place fabric index (λ x y. origins_at fabric x y (number_in fabric index x y))
