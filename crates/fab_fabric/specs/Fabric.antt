-- What tables promise of a fabric.
use Rattle.std.specs.Prelude.{◌≡◌, ◌≢◌, ◌<◌, ◌≤◌, ℕ, ◌*◌, ◌/◌, All, AllPairs, List, length, Option, Some, None}
use Rattle.std.specs.Option.{option_map_or}
use Rattle.fab_model.specs.declared.mode.Mode.{Mode}
use Rattle.fab_model.specs.declared.mode.Mode.TheVariants as modes
use Rattle.fab_model.specs.Tiles.{PlainTile, IsTile, matrix_names}
use Rattle.fab_model.specs.Tables.{HasTable}
use Rattle.fab_model.specs.Grid.{PlainFabric, tile_at}
use Rattle.fab_fabric.specs.Sums.{sum_to}

-- the fabric of these types with so many columns, whose grid lists the places row by row; frames keep its configuration
abbrev pub fabric_of : (types : List PlainTile) → (columns : ℕ) → (grid : List (Option ℕ)) → PlainFabric
fabric_of types columns grid = record { types = types; columns = columns; rows = length grid / columns; grid = grid; mode = modes.Frames }

-- a fabric whose configuration is kept in this mode
abbrev pub in_mode : Mode → PlainFabric → PlainFabric
in_mode mode fabric = record fabric { mode = mode }

-- ---- how many wires there are

-- the wires of a place are the matrix names of its tile
abbrev pub wires_at : PlainFabric → (x y : ℕ) → ℕ
wires_at fabric x y = option_map_or (λ tile. length (matrix_names tile)) (tile_at fabric x y) 0

abbrev pub column_wires : PlainFabric → (x : ℕ) → ℕ
column_wires fabric x = sum_to fabric.rows (wires_at fabric x)

abbrev pub wire_count : PlainFabric → ℕ
wire_count fabric = sum_to fabric.columns (column_wires fabric)

-- ---- what is promised

-- an empty place, or the number of a type
abbrev pub IsPlace : (types : List PlainTile) → Option ℕ → Type 0
IsPlace types None = Unit {0}
IsPlace types (Some number) = number < length types

pub record IsFabric (fabric : PlainFabric) : Type 0 where
  pub some_columns : 1 ≤ fabric.columns
  pub few_columns : fabric.columns ≤ 32
  pub some_rows : 1 ≤ fabric.rows
  pub few_rows : fabric.rows ≤ 31
  pub places : length fabric.grid ≡ fabric.columns * fabric.rows
  pub numbers : All (IsPlace fabric.types) fabric.grid
  pub few_types : length fabric.types ≤ 64
  pub names : AllPairs (λ first second. first.name ≢ second.name) fabric.types
  pub few_bels : All (λ tile. length tile.bels ≤ 26) fabric.types
  pub tables : All HasTable fabric.types
  pub few_wires : wire_count fabric ≤ 1048576

-- what holds of all tile types: their rows are rows of wires, their names differ and their pairs join inputs to outputs
abbrev pub AreTiles : PlainFabric → Type 0
AreTiles fabric = All IsTile fabric.types
