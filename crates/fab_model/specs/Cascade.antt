-- The joins of a fabric as functions, from each end of a join to the other. Each walk goes from tile to tile, one border at
-- a time. It has a step for each bit of the border, which is enough, since each step passes the bits of at least one wire.
use Rattle.std.specs.Prelude.{ℕ, zero, suc, ◌+◌, ◌*◌, ◌-◌, ◌<◌, Bool, not, ◌&&◌, ◌||◌, List, [], ◌∷◌, count_by, take, Option, Some, None, slice_get, nat_eq, nat_lt, if◌then◌else◌}
use Rattle.std.specs.Option.{option_map, option_and_then}
use Rattle.fab_model.specs.declared.tiles.Dir.{Dir}
use Rattle.fab_model.specs.declared.tiles.Dir.TheVariants as dirs
use Rattle.fab_model.specs.declared.tiles.WireRow.{WireRow}
use Rattle.fab_model.specs.Rows.{is_jump, is_named, border_bits, source_bits, dest_bits}
use Rattle.fab_model.specs.Tiles.{PlainTile}
use Rattle.fab_model.specs.Grid.{PlainFabric, tile_at}
use Rattle.fab_model.specs.Joins.{RowPlace, Stands, goes, comes}

-- ---- places

abbrev pub opposite : Dir → Dir
opposite dirs.North = dirs.South
opposite dirs.East = dirs.West
opposite dirs.South = dirs.North
opposite dirs.West = dirs.East
opposite dirs.Jump = dirs.Jump

-- the place one step in a direction
abbrev pub step : Dir → (x y : ℕ) → Option (ℕ × ℕ)
step dirs.North x y = if nat_lt 0 y then Some (x, y - 1) else None
step dirs.East x y = Some (x + 1, y)
step dirs.South x y = Some (x, y + 1)
step dirs.West x y = if nat_lt 0 x then Some (x - 1, y) else None
step dirs.Jump x y = None

-- ---- rows

-- a row, the tile in which it is, and where
pub record PlacedRow : Type 0 where
  pub place : RowPlace
  pub tile : PlainTile
  pub row : WireRow

abbrev pub row_of_tile : RowPlace → PlainTile → Option PlacedRow
row_of_tile place tile = option_map (λ row. record { place = place; tile = tile; row = row }) (slice_get tile.rows place.row)

-- the row that stands at a place
abbrev pub placed_row : PlainFabric → RowPlace → Option PlacedRow
placed_row fabric place = option_and_then (row_of_tile place) (tile_at fabric place.x place.y)

-- the i-th row that passes a test, behind its number; the first row of the list has the number `first`
abbrev pub nth_row : (test : WireRow → Bool) → List WireRow → (first i : ℕ) → Option (ℕ × WireRow)
nth_row test [] first i = None
nth_row test (row ∷ rows) first i =
    if test row then (if nat_eq i 0 then Some (first, row) else nth_row test rows (first + 1) (i - 1))
    else nth_row test rows (first + 1) i

-- ---- from row to row

-- a row of this number in a tile, if it has this many bits at the border
abbrev pub fitting : (width x y : ℕ) → PlainTile → ℕ × WireRow → Option PlacedRow
fitting width x y tile found =
    if nat_eq (border_bits found.1) width
    then Some (record { place = record { x = x; y = y; row = found.0 }; tile = tile; row = found.1 })
    else None

-- the row in a tile, at its place, that has the same number among those that pass one test as a row has among those of its
-- tile that pass another
abbrev pub partner_in : (own other : Dir → WireRow → Bool) → PlacedRow → ℕ × ℕ → PlainTile → Option PlacedRow
partner_in own other here at tile =
    let i = count_by (own here.row.dir) (take here.place.row here.tile.rows) in
    option_and_then (fitting (border_bits here.row) at.0 at.1 tile) (nth_row (other here.row.dir) tile.rows 0 i)

abbrev pub partner_at : (own other : Dir → WireRow → Bool) → PlainFabric → PlacedRow → ℕ × ℕ → Option PlacedRow
partner_at own other fabric here at = option_and_then (partner_in own other here at) (tile_at fabric at.0 at.1)

-- the row to which the bits of a row with a source go
abbrev pub next_row : PlainFabric → PlacedRow → Option PlacedRow
next_row fabric here = option_and_then (partner_at goes comes fabric here) (step here.row.dir here.place.x here.place.y)

-- the row from which the bits of a row with a destination come
abbrev pub previous_row : PlainFabric → PlacedRow → Option PlacedRow
previous_row fabric here =
    option_and_then (partner_at comes goes fabric here) (step (opposite here.row.dir) here.place.x here.place.y)

-- ---- the bits of a row

-- how many of the bits that go out of a row with both ends came into it; the others begin there
abbrev pub passing_bits : WireRow → ℕ
passing_bits row = if is_named row.dest then (row.span - 1) * row.count else 0

-- whether a bit that comes into a row ends there
abbrev pub ends_there : WireRow → (bit : ℕ) → Bool
ends_there row bit = not (is_named row.source) || nat_lt bit row.count

-- ---- from end to end

abbrev pub walk_to : PlainFabric → (fuel : ℕ) → Option PlacedRow → (bit : ℕ) → Option (RowPlace × ℕ)
walk_to fabric fuel None bit = None
walk_to fabric zero (Some next) bit = None
walk_to fabric (suc fuel) (Some next) bit =
    if ends_there next.row bit then Some (next.place, bit)
    else walk_to fabric fuel (next_row fabric next) (bit - next.row.count)

abbrev pub walk_from : PlainFabric → (fuel : ℕ) → Option PlacedRow → (bit : ℕ) → Option (RowPlace × ℕ)
walk_from fabric fuel None bit = None
walk_from fabric zero (Some previous) bit = None
walk_from fabric (suc fuel) (Some previous) bit =
    if nat_lt bit (passing_bits previous.row)
    then walk_from fabric fuel (previous_row fabric previous) (bit + previous.row.count)
    else Some (previous.place, bit - passing_bits previous.row)

-- both sides of a jump have the same bits, if it has both
abbrev pub other_side : PlacedRow → (bit : ℕ) → Option (RowPlace × ℕ)
other_side here bit = if is_named here.row.source && is_named here.row.dest then Some (here.place, bit) else None

abbrev pub row_join_to : PlainFabric → (source : ℕ) → PlacedRow → Option (RowPlace × ℕ)
row_join_to fabric source here =
    if is_jump here.row.dir then other_side here source
    else walk_to fabric (border_bits here.row) (next_row fabric here) (passing_bits here.row + source)

abbrev pub row_join_from : PlainFabric → (dest : ℕ) → PlacedRow → Option (RowPlace × ℕ)
row_join_from fabric dest here =
    if is_jump here.row.dir then other_side here dest
    else walk_from fabric (border_bits here.row) (previous_row fabric here) dest

-- the destination bit to which a source bit of the row at a place is joined
abbrev pub join_to : PlainFabric → RowPlace → (source : ℕ) → Option (RowPlace × ℕ)
join_to fabric here source = option_and_then (row_join_to fabric source) (placed_row fabric here)

-- the source bit that is joined to a destination bit of the row at a place
abbrev pub join_from : PlainFabric → RowPlace → (dest : ℕ) → Option (RowPlace × ℕ)
join_from fabric there dest = option_and_then (row_join_from fabric dest) (placed_row fabric there)

-- ---- the bits that can be joined

-- a row stands at this place and has this source bit
pub record IsSourceBit (fabric : PlainFabric) (here : RowPlace) (source : ℕ) : Type 0 where
  pub tile : PlainTile
  pub row : WireRow
  pub stands : Stands fabric here tile row
  pub is_bit : source < source_bits row

-- a row stands at this place and has this destination bit
pub record IsDestBit (fabric : PlainFabric) (there : RowPlace) (dest : ℕ) : Type 0 where
  pub tile : PlainTile
  pub row : WireRow
  pub stands : Stands fabric there tile row
  pub is_bit : dest < dest_bits row
