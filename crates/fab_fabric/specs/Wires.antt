-- The wires of a fabric by number: column by column, in a column from the top, and in a tile by matrix name.
use Rattle.std.specs.Prelude.{◌≡◌, ℕ, ◌+◌, Option, None}
use Rattle.std.specs.Option.{option_map, option_map_or}
use Rattle.fab_model.specs.Grid.{PlainFabric, tile_at}
use Rattle.fab_model.specs.Wires.{PlainWire, HasWire, source_of, dest_of, pin_of, wire_number}
use Rattle.fab_model.specs.Joins.{RowPlace}
use Rattle.fab_model.specs.Cascade.{join_to, join_from}
use Rattle.fab_fabric.specs.Sums.{sum_to}
use Rattle.fab_fabric.specs.Fabric.{wires_at, column_wires}
use Rattle.fab_fabric.specs.declared.wire.Wire.{Wire}

-- the number of the wire that has this matrix name number in the tile at a place: behind the wires of the columns before it
-- and those of the tiles above it
abbrev pub wire_index : PlainFabric → (x y number : ℕ) → ℕ
wire_index fabric x y number = sum_to x (column_wires fabric) + sum_to y (wires_at fabric x) + number

abbrev pub numbered_wire : (index : ℕ) → Wire
numbered_wire index = record { 0 = index }

-- ---- wires that are given by their rows and BELs

-- the number of a wire of the tile at a place
abbrev pub index_of : PlainFabric → (x y : ℕ) → PlainWire → ℕ
index_of fabric x y plain = wire_index fabric x y (option_map_or (λ tile. wire_number tile plain) (tile_at fabric x y) 0)

-- this is the number of a wire of the tile at a place
pub record IsIndexOf (fabric : PlainFabric) (index : ℕ) (x y : ℕ) (plain : PlainWire) : Type 0 where
  pub is_wire : HasWire fabric x y plain
  pub is_index : index ≡ index_of fabric x y plain

-- ---- joins

abbrev pub row_place : (x y row : ℕ) → RowPlace
row_place x y row = record { x = x; y = y; row = row }

abbrev pub dest_wire : PlainFabric → RowPlace × ℕ → Wire
dest_wire fabric found = numbered_wire (index_of fabric found.0.x found.0.y (dest_of found.0.row found.1))

abbrev pub source_wire : PlainFabric → RowPlace × ℕ → Wire
source_wire fabric found = numbered_wire (index_of fabric found.0.x found.0.y (source_of found.0.row found.1))

-- the wire to which a wire of the tile at a place is joined: only source bits are joined to others
abbrev pub wire_join_to : PlainFabric → (x y : ℕ) → PlainWire → Option Wire
wire_join_to fabric x y (source_of row bit) = option_map (dest_wire fabric) (join_to fabric (row_place x y row) bit)
wire_join_to fabric x y (dest_of row bit) = None
wire_join_to fabric x y (pin_of bel pin) = None

-- the wire that is joined to a wire of the tile at a place: only to destination bits others are joined
abbrev pub wire_join_from : PlainFabric → (x y : ℕ) → PlainWire → Option Wire
wire_join_from fabric x y (source_of row bit) = None
wire_join_from fabric x y (dest_of row bit) = option_map (source_wire fabric) (join_from fabric (row_place x y row) bit)
wire_join_from fabric x y (pin_of bel pin) = None
