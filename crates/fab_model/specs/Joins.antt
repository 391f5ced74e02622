-- Which matrix input each matrix output is joined to, said of border bits, with no search and no count of tiles: a matrix
-- output stands at a border bit; a border bit crosses to the neighbour's row; there it is a matrix input, or goes on.
use Rattle.std.specs.Prelude.{◌≡◌, ◌⊎◌, ℕ, ◌+◌, ◌*◌, ◌-◌, ◌<◌, Bool, true, false, ◌&&◌, List, count_by, take, Some, slice_get}
use Rattle.std.specs.Bool.{MatchBool}
use Rattle.fab_model.specs.declared.tiles.Dir.{Dir}
use Rattle.fab_model.specs.declared.tiles.Dir.TheVariants as dirs
use Rattle.fab_model.specs.declared.tiles.WireRow.{WireRow}
use Rattle.fab_model.specs.Rows.{is_jump, same_dir, is_named, border_bits, source_bits}
use Rattle.fab_model.specs.Tiles.{PlainTile}
use Rattle.fab_model.specs.Grid.{PlainFabric, tile_at}

-- a row of the tile at a place
pub record RowPlace : Type 0 where
  pub x : ℕ
  pub y : ℕ
  pub row : ℕ

-- the row stands there
pub record Stands (fabric : PlainFabric) (place : RowPlace) (tile : PlainTile) (row : WireRow) : Type 0 where
  pub tile_is : tile_at fabric place.x place.y ≡ Some tile
  pub row_is : slice_get tile.rows place.row ≡ Some row

-- the second place is one step in the direction from the first
abbrev pub IsAhead : Dir → (x y x2 y2 : ℕ) → Type 0
IsAhead dirs.North x y x2 y2 = (x2 ≡ x) × (y ≡ y2 + 1)
IsAhead dirs.East x y x2 y2 = (x2 ≡ x + 1) × (y2 ≡ y)
IsAhead dirs.South x y x2 y2 = (x2 ≡ x) × (y2 ≡ y + 1)
IsAhead dirs.West x y x2 y2 = (x ≡ x2 + 1) × (y2 ≡ y)
IsAhead dirs.Jump x y x2 y2 = ⊥

-- a row of a direction that goes out of its tile, and one that comes into it
abbrev pub goes : Dir → WireRow → Bool
goes dir row = same_dir row.dir dir && is_named row.source

abbrev pub comes : Dir → WireRow → Bool
comes dir row = same_dir row.dir dir && is_named row.dest

-- the row of this number passes the test, and i rows before it do
abbrev pub IsNth : (test : WireRow → Bool) → List WireRow → (number i : ℕ) → WireRow → Type 0
IsNth test rows number i row = (slice_get rows number ≡ Some row) × (test row ≡ true) × (count_by test (take number rows) ≡ i)

-- The bits of a row cross to a row of the neighbour one step in their direction: the i-th row that goes out to the i-th
-- that comes in, where both have equally many bits at the border.
pub record Crosses (fabric : PlainFabric) (here there : RowPlace) : Type 0 where
  pub tile : PlainTile
  pub row : WireRow
  pub next_tile : PlainTile
  pub next_row : WireRow
  pub stands : Stands fabric here tile row
  pub next_stands : Stands fabric there next_tile next_row
  pub ahead : IsAhead row.dir here.x here.y there.x there.y
  pub i : ℕ
  pub nth : IsNth (goes row.dir) tile.rows here.row i row
  pub next_nth : IsNth (comes row.dir) next_tile.rows there.row i next_row
  pub equal : border_bits row ≡ border_bits next_row

-- the border bit at which a matrix output of a row stands: the last of those that go on where the row has both ends
abbrev pub StandsAt : WireRow → (output bit : ℕ) → Type 0
StandsAt row output bit = MatchBool (is_named row.dest) (bit ≡ (row.span - 1) * row.count + output) (bit ≡ output)

-- a border bit that comes into a row ends there, as the matrix input of its number
abbrev pub Ends : WireRow → (bit : ℕ) → Type 0
Ends row bit = (is_named row.source ≡ false) ⊎ (bit < row.count)

-- a border bit that goes out of the row at one place leads to a destination bit of the row at another
pub data LeadsOn (fabric : PlainFabric) : (here : RowPlace) → (bit : ℕ) → (there : RowPlace) → (dest : ℕ) → Type 0 where
  arrives : {here there : RowPlace} {bit : ℕ} → (crossing : Crosses fabric here there) → Ends crossing.next_row bit → LeadsOn fabric here bit there bit
  goes_on : {here next there : RowPlace} {bit rest dest : ℕ} → (crossing : Crosses fabric here next) → is_named crossing.next_row.source ≡ true
      → bit ≡ crossing.next_row.count + rest → LeadsOn fabric next rest there dest → LeadsOn fabric here bit there dest

-- a source bit of the row at one place is joined to a destination bit of the row at another
pub data Joins (fabric : PlainFabric) : (here : RowPlace) → (source : ℕ) → (there : RowPlace) → (dest : ℕ) → Type 0 where
  jump : {here : RowPlace} {bit : ℕ} {tile : PlainTile} {row : WireRow} → Stands fabric here tile row → is_jump row.dir ≡ true
      → bit < source_bits row → is_named row.dest ≡ true → Joins fabric here bit here bit
  cascade : {here there : RowPlace} {source bit dest : ℕ} {tile : PlainTile} {row : WireRow} → Stands fabric here tile row → is_jump row.dir ≡ false
      → source < source_bits row → StandsAt row source bit → LeadsOn fabric here bit there dest → Joins fabric here source there dest
