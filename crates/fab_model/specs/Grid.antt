-- A fabric as plain data: its tile types, which of them stands at each place, and what keeps its configuration.
use Rattle.std.specs.Prelude.{ℕ, ◌+◌, ◌*◌, ◌&&◌, List, All, Option, Some, None, slice_get, nat_lt, if◌then◌else◌}
use Rattle.fab_model.specs.declared.mode.Mode.{Mode}
use Rattle.fab_model.specs.Rows.{IsWireRow}
use Rattle.fab_model.specs.Tiles.{PlainTile}

pub record PlainFabric : Type 0 where
  pub types : List PlainTile
  pub columns : ℕ
  pub rows : ℕ
  -- row by row, from the top; a place has the number of a type or is empty
  pub grid : List (Option ℕ)
  pub mode : Mode

abbrev pub numbered_type : List PlainTile → Option (Option ℕ) → Option PlainTile
numbered_type types None = None
numbered_type types (Some None) = None
numbered_type types (Some (Some number)) = slice_get types number

-- the tile at a column and a row, both from 0
abbrev pub tile_at : PlainFabric → (x y : ℕ) → Option PlainTile
tile_at fabric x y =
    if nat_lt x fabric.columns && nat_lt y fabric.rows then numbered_type fabric.types (slice_get fabric.grid (y * fabric.columns + x)) else None

abbrev pub AllRows : PlainTile → Type 0
AllRows tile = All IsWireRow tile.rows

-- what tables promise of all rows of a fabric
abbrev pub AreRows : PlainFabric → Type 0
AreRows fabric = All AllRows fabric.types
