-- What a fabric keeps beside its tile types and its grid, so that calls take no search.
use Rattle.std.specs.Prelude.{◌≡◌, ◌<◌, ℕ, Bool, ◌*◌, ◌/◌, ◌%◌, List, map, length, take, count_by, slice_get, slice_index_or, Some}
use Rattle.std.specs.Option.{option_map}
use Rattle.fab_model.specs.fab_bits.specs.Keys.{group_at}
use Rattle.fab_model.specs.declared.tiles.Dir.{Dir}
use Rattle.fab_model.specs.declared.tiles.Dir.TheVariants as dirs
use Rattle.fab_model.specs.declared.tiles.WireRow.{WireRow}
use Rattle.fab_model.specs.Tiles.{PlainTile, IsTile}
use Rattle.fab_model.specs.Grid.{PlainFabric}
use Rattle.fab_model.specs.Joins.{goes, comes}
use Rattle.fab_model.specs.Cascade.{nth_row}
use Rattle.fab_model.specs.Wires.{PlainWire, source_of, dest_of, pin_of, plain_wires, wires_before_row}
use Rattle.fab_model.specs.Drive.{matrix_inputs}
use Rattle.fab_fabric.specs.Sums.{sum_to}
use Rattle.fab_fabric.specs.Fabric.{IsFabric, AreTiles, wires_at, wire_count}
use Rattle.fab_fabric.specs.declared.ends.Side.{Side}
use Rattle.fab_fabric.specs.declared.ends.Side.TheVariants as sides
use Rattle.fab_fabric.specs.declared.ends.Ends.{Ends}
use Rattle.fab_fabric.specs.declared.ends.SideEnds.{SideEnds}
use Rattle.fab_fabric.specs.declared.index.TileWire.{TileWire}
use Rattle.fab_fabric.specs.declared.index.TileWire.TheVariants as wires
use Rattle.fab_fabric.specs.declared.index.TileIndex.{TileIndex}

-- ---- rows by direction

-- whether a row of this direction has this side
abbrev pub has_side : Side → Dir → WireRow → Bool
has_side sides.Source = goes
has_side sides.Dest = comes

-- how many of the rows that pass a test stand before each row, and the numbers of those that pass
pub record HasEnds (test : WireRow → Bool) (rows : List WireRow) (ends : Ends) : Type 0 where
  pub as_many : length ends.before.items ≡ length rows
  pub before : (row : ℕ) → row < length rows → slice_index_or ends.before.items row 0 ≡ count_by test (take row rows)
  pub numbers : (i : ℕ) → slice_get ends.rows.items i ≡ option_map (λ found. found.0) (nth_row test rows 0 i)

abbrev pub ends_of_dir : SideEnds → Dir → Ends
ends_of_dir ends dirs.North = ends.north
ends_of_dir ends dirs.East = ends.east
ends_of_dir ends dirs.South = ends.south
ends_of_dir ends dirs.West = ends.west
ends_of_dir ends dirs.Jump = ends.jump

abbrev pub HasSides : (side : Side) → List WireRow → SideEnds → Type 0
HasSides side rows ends = (dir : Dir) → HasEnds (has_side side dir) rows (ends_of_dir ends dir)

-- ---- a tile

abbrev pub plain_wire : TileWire → PlainWire
plain_wire (wires.Source row bit) = source_of row bit
plain_wire (wires.Dest row bit) = dest_of row bit
plain_wire (wires.Pin bel pin) = pin_of bel pin

abbrev pub ends_of : TileIndex → Side → Dir → Ends
ends_of index sides.Source dir = ends_of_dir index.sources dir
ends_of index sides.Dest dir = ends_of_dir index.dests dir

pub record HasIndex (tile : PlainTile) (index : TileIndex) : Type 0 where
  pub is_tile : IsTile tile
  pub wires : map plain_wire index.wires.items ≡ plain_wires tile
  pub as_many : length index.starts.items ≡ length tile.rows
  pub starts : (row : ℕ) → row < length tile.rows → slice_index_or index.starts.items row 0 ≡ wires_before_row tile.rows row
  pub sources : HasSides sides.Source tile.rows index.sources
  pub dests : HasSides sides.Dest tile.rows index.dests
  pub inputs : (output : ℕ) → group_at index.inputs.items output ≡ matrix_inputs tile output

-- ---- a fabric

-- the places column by column
abbrev pub place_wires : PlainFabric → (place : ℕ) → ℕ
place_wires fabric place = wires_at fabric (place / fabric.rows) (place % fabric.rows)

abbrev pub HaveIndexes : List PlainTile → List TileIndex → Type 0
HaveIndexes types indexes = (number : ℕ) (tile : PlainTile) → slice_get types number ≡ Some tile → (index : TileIndex) × (slice_get indexes number ≡ Some index) × HasIndex tile index

-- the number of the first wire of each place
pub record HasFirsts (fabric : PlainFabric) (firsts : List ℕ) : Type 0 where
  pub as_many : length firsts ≡ fabric.columns * fabric.rows
  pub each : (place : ℕ) → place < fabric.columns * fabric.rows → slice_index_or firsts place 0 ≡ sum_to place (place_wires fabric)

pub record IsIndexed (fabric : PlainFabric) (indexes : List TileIndex) (firsts : List ℕ) (wires : ℕ) : Type 0 where
  pub is_fabric : IsFabric fabric
  pub are_tiles : AreTiles fabric
  pub indexed : HaveIndexes fabric.types indexes
  pub numbered : HasFirsts fabric firsts
  pub all_wires : wires ≡ wire_count fabric
