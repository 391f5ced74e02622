-- How bits are set in turn: each turn adds ones, and takes none away.
use Rattle.std.specs.Prelude.{◌≡◌, ◌⊎◌, ◌≤◌, ◌<◌, ℕ, ◌+◌, ◌-◌, Bool, true, List, Contains, length, Some, is_some, nat_eq}
use Rattle.std.specs.List.{list_any}
use Rattle.fab_kinds.specs.declared.kind.Kind.TheVariants as kinds
use Rattle.fab_model.specs.Tiles.{PlainTile, output_field, bits_before}
use Rattle.fab_model.specs.Grid.{PlainFabric, tile_at}
use Rattle.fab_model.specs.Drive.{PlainBits, matrix_inputs}
use Rattle.fab_fabric.specs.Bits.{bits_at}
use Rattle.fab_fabric.specs.Fabric.{wires_at}
use Rattle.fab_fabric.specs.Wires.{wire_index}
use Rattle.fab_fabric.specs.declared.wire.Site.{Site}
use Rattle.fab_implementation.specs.Plain.{Edge, PlainTree}
use Rattle.fab_implementation.specs.OnFabric.{kind_at}
use Rattle.fab_netlist.specs.Plain.{IsAt}
use Rattle.fab_netlist.specs.WellMade.{table_bit}
use Rattle.fab_netlist.specs.Packed.{PlainCell, PlainPacked}
use Rattle.fab_use_defs.specs.Configuring.{cell_bit}
use Rattle.fab_features.specs.Features.{place_among}
use Rattle.fab_features.specs.declared.ones.Ones.{Ones}
use Rattle.fab_features.specs.declared.said.Choice.{Choice}

-- bits by column, row and number
abbrev pub BitSet : Type 1
BitSet = (x y bit : ℕ) → Type 0

-- the bits of this set become 1, and all others stay
pub record Adds (old new : PlainBits) (IsOne : BitSet) : Type 0 where
  pub kept : (x y bit : ℕ) → old x y bit ≡ true → new x y bit ≡ true
  pub set : (x y bit : ℕ) → IsOne x y bit → new x y bit ≡ true
  pub no_others : (x y bit : ℕ) → new x y bit ≡ true → (old x y bit ≡ true) ⊎ IsOne x y bit

-- the bits of one of these items
abbrev pub SomeOf : {X : Type 0} → (IsOne : X → BitSet) → List X → BitSet
SomeOf {X} IsOne xs x y bit = (item : X) × Contains xs item × IsOne item x y bit

-- ---- a value in a tile

-- the value has a 1 for a bit of the tile
pub record IsOneOf (ones : Ones) (x y bit : ℕ) : Type 0 where
  pub x_is : x ≡ ones.x
  pub y_is : y ≡ ones.y
  pub above : ones.low ≤ bit
  pub below : bit < ones.low + ones.width
  pub one : table_bit ones.value (bit - ones.low) ≡ true

-- its bits are bits of the place
abbrev pub FitsTile : PlainFabric → Ones → Type 0
FitsTile fabric ones = ones.low + ones.width ≤ bits_at fabric ones.x ones.y

-- ---- cells and edges

-- a bit of the BEL at a site is a bit of a cell that is 1, in a design with a reset port or without
pub record IsSiteOne (fabric : PlainFabric) (resets : Bool) (site : Site) (cell : PlainCell) (x y bit : ℕ) : Type 0 where
  pub tile : PlainTile
  pub place : ℕ
  pub x_is : x ≡ site.x
  pub y_is : y ≡ site.y
  pub tile_is : tile_at fabric x y ≡ Some tile
  pub bit_is : bit ≡ bits_before tile.bels site.bel + place
  pub inside : place < 19
  pub one : cell_bit resets cell place ≡ true

-- the same for the cell and the site of a line
abbrev pub IsCellOne : PlainFabric → PlainPacked → ℕ × Site → BitSet
IsCellOne fabric packed line x y bit = (cell : PlainCell) × IsAt packed.cells line.0 cell × IsSiteOne fabric (is_some packed.reset) line.1 cell x y bit

-- a line puts a cell of the design on a LUT4c
pub record IsCellLine (fabric : PlainFabric) (packed : PlainPacked) (line : ℕ × Site) : Type 0 where
  pub number : line.0 < length packed.cells
  pub of_kind : kind_at fabric line.1 ≡ Some kinds.Lut4c

-- a select bit of an output that is 1 where it has this input
pub record IsSelectOne (tile : PlainTile) (output input bit : ℕ) : Type 0 where
  pub paired : list_any (λ other. nat_eq other input) (matrix_inputs tile output) ≡ true
  pub above : (output_field tile output).0 ≤ bit
  pub below : bit < (output_field tile output).0 + (output_field tile output).1
  pub one : table_bit (place_among (matrix_inputs tile output) input) (bit - (output_field tile output).0) ≡ true

-- such a bit at a place
pub record IsChoiceOne (tile : PlainTile) (choice : Choice) (x y bit : ℕ) : Type 0 where
  pub x_is : x ≡ choice.x
  pub y_is : y ≡ choice.y
  pub selected : IsSelectOne tile choice.output choice.input bit

-- such a bit of the output that an edge enters, where the edge is of a pair
pub record IsEdgeOne (fabric : PlainFabric) (edge : Edge) (x y bit : ℕ) : Type 0 where
  pub tile : PlainTile
  pub output : ℕ
  pub input : ℕ
  pub tile_is : tile_at fabric x y ≡ Some tile
  pub output_in : output < wires_at fabric x y
  pub input_in : input < wires_at fabric x y
  pub output_is : edge.1.0 ≡ wire_index fabric x y output
  pub input_is : edge.0.0 ≡ wire_index fabric x y input
  pub selected : IsSelectOne tile output input bit

abbrev pub IsTreeOne : PlainFabric → PlainTree → BitSet
IsTreeOne fabric tree = SomeOf (IsEdgeOne fabric) tree.edges
