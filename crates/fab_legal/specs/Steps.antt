-- Which wire may drive which, and wires that are named by pins or are constant.
use Rattle.std.specs.Prelude.{◌≡◌, ◌⊎◌, ◌<◌, ℕ, Bool, true, false, Contains, Some, length}
use Rattle.fab_kinds.specs.declared.kind.Kind.{Kind}
use Rattle.fab_kinds.specs.Pins.{pin_names}
use Rattle.fab_select.specs.declared.pair.Pair.{Pair}
use Rattle.fab_implementation.specs.fab_model.specs.declared.tiles.WireRow.{WireRow}
use Rattle.fab_implementation.specs.fab_model.specs.Rows.{is_jump, is_named}
use Rattle.fab_implementation.specs.fab_model.specs.Tiles.{PlainTile}
use Rattle.fab_implementation.specs.fab_model.specs.Wires.{PlainWire, dest_of, pin_of}
use Rattle.fab_implementation.specs.fab_model.specs.Grid.{PlainFabric, tile_at}
use Rattle.fab_implementation.specs.fab_model.specs.Joins.{Stands}
use Rattle.fab_implementation.specs.fab_model.specs.Drive.{PlainDrive, zero_bit, one_bit, constant}
use Rattle.fab_implementation.specs.fab_fabric.specs.Wires.{wire_index, numbered_wire, index_of, IsIndexOf, row_place, wire_join_to}
use Rattle.fab_implementation.specs.fab_fabric.specs.declared.wire.Site.{Site}
use Rattle.fab_implementation.specs.fab_fabric.specs.declared.wire.Wire.{Wire}
use Rattle.fab_implementation.specs.OnFabric.{kind_at}

-- a pair of the switch matrix of a tile leads from its input to its output
pub record IsPaired (fabric : PlainFabric) (from to : Wire) : Type 0 where
  pub x : ℕ
  pub y : ℕ
  pub tile : PlainTile
  pub tile_is : tile_at fabric x y ≡ Some tile
  pub pair : Pair
  pub listed : Contains tile.pairs pair
  pub from_is : from ≡ numbered_wire (wire_index fabric x y pair.input)
  pub to_is : to ≡ numbered_wire (wire_index fabric x y pair.output)

-- a join leads from a matrix output to a matrix input
pub record IsJoined (fabric : PlainFabric) (from to : Wire) : Type 0 where
  pub x : ℕ
  pub y : ℕ
  pub plain : PlainWire
  pub from_is : IsIndexOf fabric from.0 x y plain
  pub joined : wire_join_to fabric x y plain ≡ Some to

abbrev pub IsStep : PlainFabric → (from to : Wire) → Type 0
IsStep fabric from to = IsPaired fabric from to ⊎ IsJoined fabric from to

-- the site has the pin
abbrev pub HasPin : PlainFabric → Site → (pin : ℕ) → Type 0
HasPin fabric site pin = (kind : Kind) × (kind_at fabric site ≡ Some kind) × (pin < length (pin_names kind))

-- the wire of a pin of a BEL; a pin's number counts the inputs first
abbrev pub pin_wire : PlainFabric → Site → (pin : ℕ) → Wire
pin_wire fabric site pin = numbered_wire (index_of fabric site.x site.y (pin_of site.bel pin))

-- what a wire of a constant value has for its drive
abbrev pub bit_drive : Bool → PlainDrive
bit_drive true = one_bit
bit_drive false = zero_bit

-- a bit of a jump without a source, whose value its name tells: `VCC` is 1, any other is 0
pub record IsConstant (fabric : PlainFabric) (value : PlainDrive) (wire : Wire) : Type 0 where
  pub x : ℕ
  pub y : ℕ
  pub row : ℕ
  pub bit : ℕ
  pub tile : PlainTile
  pub found : WireRow
  pub stands : Stands fabric (row_place x y row) tile found
  pub jumps : is_jump found.dir ≡ true
  pub unsourced : is_named found.source ≡ false
  pub wire_is : IsIndexOf fabric wire.0 x y (dest_of row bit)
  pub value_is : constant found.dest ≡ value
