-- How a list of features is read line by line.
use Rattle.std.specs.Prelude.{◌≡◌, ◌≢◌, ◌⊎◌, ◌<◌, ℕ, ◌+◌, List, Contains, length, slice_get, slice_index_or, Option, Some, None}
use Rattle.fab_kinds.specs.Pins.{bit_count}
use Rattle.fab_model.specs.declared.tiles.Bel.{Bel}
use Rattle.fab_model.specs.Tiles.{PlainTile, bits_before}
use Rattle.fab_model.specs.Grid.{PlainFabric, tile_at}
use Rattle.fab_fabric.specs.Fabric.{wires_at, wire_count}
use Rattle.fab_fabric.specs.Wires.{wire_index}
use Rattle.fab_legal.specs.declared.broken.CheckFault.{CheckFault}
use Rattle.fab_legal.specs.declared.broken.CheckFault.TheVariants as faults
use Rattle.fab_fasm.specs.declared.feature.Feature.{Feature}
use Rattle.fab_features.specs.Features.{SetsBelBit, Chooses}
use Rattle.fab_features.specs.inner.Adding.{BitSet, IsSelectOne}
use Rattle.fab_features.specs.Wrong.{BreaksBehind}
use Rattle.fab_features.specs.declared.said.Choice.{Choice}

-- ---- the table of inputs

-- what a table has for the output of a pair
abbrev pub input_in : PlainFabric → List (Option ℕ) → Choice → Option ℕ
input_in fabric table pair = slice_index_or table (wire_index fabric pair.x pair.y pair.output) None

-- the table has the input that lines choose for each output, by the output's wire
pub record HoldsChoices (fabric : PlainFabric) (before : List Feature) (table : List (Option ℕ)) : Type 0 where
  pub as_many : length table ≡ wire_count fabric
  pub known : (x y output input : ℕ) → output < wires_at fabric x y → slice_index_or table (wire_index fabric x y output) None ≡ Some input →
      (feature : Feature) × Contains before feature × Chooses fabric feature x y output input
  pub noted : (x y output input : ℕ) (feature : Feature) → Contains before feature → Chooses fabric feature x y output input →
      slice_index_or table (wire_index fabric x y output) None ≡ Some input

-- a line chooses the input of a pair, and the table has another one for its output
pub record IsContrary (fabric : PlainFabric) (table : List (Option ℕ)) (feature : Feature) (pair : Choice) : Type 0 where
  pub some : feature.value ≢ 0
  pub other : ℕ
  pub other_is : input_in fabric table pair ≡ Some other
  pub differs : other ≢ pair.input

-- the table has no other input for the output for which a line chooses one
abbrev pub Allows : PlainFabric → List (Option ℕ) → Feature → Type 0
Allows fabric table feature =
    (x y output input other : ℕ) → Chooses fabric feature x y output input → slice_index_or table (wire_index fabric x y output) None ≡ Some other → other ≡ input

-- the table takes the input that a line chooses, and keeps all that it has
pub record Notes (fabric : PlainFabric) (feature : Feature) (old new : List (Option ℕ)) : Type 0 where
  pub as_many : length new ≡ length old
  pub kept : (wire input : ℕ) → slice_index_or old wire None ≡ Some input → slice_index_or new wire None ≡ Some input
  pub noted : (x y output input : ℕ) → Chooses fabric feature x y output input → slice_index_or new (wire_index fabric x y output) None ≡ Some input
  pub no_others : (x y output input : ℕ) → output < wires_at fabric x y → slice_index_or new (wire_index fabric x y output) None ≡ Some input →
      (slice_index_or old (wire_index fabric x y output) None ≡ Some input) ⊎ Chooses fabric feature x y output input

-- a line is refused behind others by the rule that it breaks, unless memory was refused
abbrev pub IsRefused : PlainFabric → (before : List Feature) → Feature → CheckFault → Type 0
IsRefused fabric before feature (faults.Broken broken) = BreaksBehind fabric before feature broken.rule broken.item
IsRefused fabric before feature faults.Memory = Unit {0}

-- ---- the bits of a line

-- a bit of a BEL that a line sets
pub record IsFieldOne (fabric : PlainFabric) (feature : Feature) (x y bit : ℕ) : Type 0 where
  pub tile : PlainTile
  pub bel : ℕ
  pub place : ℕ
  pub found : Bel
  pub tile_is : tile_at fabric x y ≡ Some tile
  pub bel_is : slice_get tile.bels bel ≡ Some found
  pub small : place < bit_count found.kind
  pub bit_is : bit ≡ bits_before tile.bels bel + place
  pub sets : SetsBelBit fabric feature x y bel place

-- a select bit of an output for which a line chooses an input
pub record IsPairOne (fabric : PlainFabric) (feature : Feature) (x y bit : ℕ) : Type 0 where
  pub tile : PlainTile
  pub output : ℕ
  pub input : ℕ
  pub tile_is : tile_at fabric x y ≡ Some tile
  pub chooses : Chooses fabric feature x y output input
  pub selected : IsSelectOne tile output input bit

abbrev pub IsLineOne : PlainFabric → Feature → BitSet
IsLineOne fabric feature x y bit = IsFieldOne fabric feature x y bit ⊎ IsPairOne fabric feature x y bit
