-- Rows that are found on walks from tile to tile.
use Rattle.std.specs.Prelude.{◌≡◌, ℕ, ◌&&◌, Option, Some, None, if◌then◌else◌}
use Rattle.std.specs.Option.{option_map, option_and_then}
use Rattle.fab_model.specs.declared.tiles.WireRow.{WireRow}
use Rattle.fab_model.specs.Rows.{is_named}
use Rattle.fab_model.specs.Grid.{PlainFabric}
use Rattle.fab_model.specs.Joins.{RowPlace}
use Rattle.fab_model.specs.Cascade.{PlacedRow, placed_row}
use Rattle.fab_fabric.specs.Wires.{row_place}
use Rattle.fab_fabric.specs.declared.fabric.joins.RowAt.{RowAt}

abbrev pub place_of : RowAt → RowPlace
place_of at = row_place at.x at.y at.row

abbrev pub found_bit : RowAt × ℕ → RowPlace × ℕ
found_bit found = (place_of found.0, found.1)

-- the row that stands at a place, if one is found
abbrev pub placed_at : PlainFabric → Option RowAt → Option PlacedRow
placed_at fabric found = option_and_then (λ at. placed_row fabric (place_of at)) found

abbrev pub row_at : PlainFabric → RowAt → Option WireRow
row_at fabric at = option_map (λ placed. placed.row) (placed_row fabric (place_of at))

-- a row stands there
pub record HasRow (fabric : PlainFabric) (at : RowAt) : Type 0 where
  pub placed : PlacedRow
  pub stands : placed_row fabric (place_of at) ≡ Some placed

-- what is found is the row that is sought
abbrev pub FindsRow : PlainFabric → Option RowAt → Option PlacedRow → Type 0
FindsRow fabric None sought = sought ≡ None
FindsRow fabric (Some at) sought = HasRow fabric at × (sought ≡ placed_row fabric (place_of at))

-- both sides of a jump have the same bits, if it has both
abbrev pub both_sides : WireRow → RowAt → (bit : ℕ) → Option (RowAt × ℕ)
both_sides row at bit = if is_named row.source && is_named row.dest then Some (at, bit) else None
