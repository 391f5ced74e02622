-- The fabric that a fabric file spells with all files that it names, and its first refusal.
use Rattle.std.specs.Prelude.{◌≡◌, ◌≤◌, ◌<◌, ℕ, ◌&&◌, Bool, true, List, [], ◌∷◌, map, find, position, length, not, is_some, if◌then◌else◌, Option, Some, None}
use Rattle.std.specs.List.{list_any, flat_map}
use Rattle.std.specs.Str.{bytes_eq}
use Rattle.fab_base.specs.Reading.{fault_at}
use Rattle.fab_base.specs.declared.fault.Fault.{Fault}
use Rattle.fab_base.specs.declared.words.Reason.TheVariants as reasons
use Rattle.fab_base.specs.declared.words.Quantity.TheVariants as quantities
use Rattle.fab_base.specs.declared.problem.Problem.TheVariants as problems
use Rattle.fab_desk.specs.Files.{Map}
use Rattle.fab_model.specs.Tiles.{PlainTile}
use Rattle.fab_model.specs.Grid.{PlainFabric}
use Rattle.fab_fabric.specs.Fabric.{fabric_of, in_mode, wire_count}
use Rattle.fab_lines.specs.Counts.{last_line}
use Rattle.fab_files.specs.Files.{Event, refuses}
use Rattle.fab_list_files.specs.Lists.{most_open}
use Rattle.fab_blocks.specs.Cells.{is_null}
use Rattle.fab_blocks.specs.Reading.{PlainReading, PlainGridLine, PlainHolder, start}
use Rattle.fab_read.specs.Rows.{ReadsFile, MeetsRowsFile}

-- the file that is named holds the fabric, and any block in it is its own
abbrev pub top : (name : List ℕ) → PlainHolder
top name = record { file = name; is_fabric = true; is_own = true; left = most_open }

-- ---- the grid

-- the number of the type that a cell names; an empty place has none
abbrev pub type_number : List PlainTile → (cell : List ℕ) → Option ℕ
type_number types cell = if is_null cell then None else position (λ tile. bytes_eq cell tile.name) types

-- a cell that names a tile which there is not
abbrev pub is_strange : List PlainTile → (cell : List ℕ) → Bool
is_strange types cell = not (is_null cell) && not (is_some (type_number types cell))

-- the first line with such a cell
abbrev pub strange_line : List PlainTile → List PlainGridLine → Option PlainGridLine
strange_line types lines = find (λ line. list_any (is_strange types) line.cells) lines

-- all lines have as many cells
abbrev pub column_count : List PlainGridLine → ℕ
column_count [] = 0
column_count (first ∷ lines) = length first.cells

-- the types of the places, line by line from the top
abbrev pub places : List PlainTile → List PlainGridLine → List (Option ℕ)
places types lines = flat_map (λ line. map (type_number types) line.cells) lines

abbrev pub grid_fabric : List PlainTile → List PlainGridLine → PlainFabric
grid_fabric types lines = fabric_of types (column_count lines) (places types lines)

-- ---- the fabric

abbrev pub most_wires : ℕ
most_wires = 1048576

-- The files come to these types and this grid, and each name in the grid is that of a type.
pub record ReadsParts (files : Map) (name bytes : List ℕ) (types : List PlainTile) (lines : List PlainGridLine) : Type 0 where
  pub reading : PlainReading
  pub read : ReadsFile files (top name) start bytes reading
  pub types_are : types ≡ reading.types
  pub grid_is : reading.grid ≡ Some lines
  pub named : strange_line types lines ≡ None

pub record SpellsFabric (files : Map) (name : List ℕ) (fabric : PlainFabric) : Type 0 where
  pub bytes : List ℕ
  pub types : List PlainTile
  pub lines : List PlainGridLine
  pub parts : ReadsParts files name bytes types lines
  pub few_wires : wire_count (grid_fabric types lines) ≤ most_wires
  pub is : fabric ≡ in_mode parts.reading.configuration (grid_fabric types lines)

-- What a reader of the fabric comes upon: what its files hold; behind them an absent grid, then the first line of the grid that
-- names a tile which there is not, and at last too many wires.
pub data MeetsFabric (files : Map) (name : List ℕ) : Event → Type 0 where
  of_rows : {event : Event} → MeetsRowsFile files (top name) start event → MeetsFabric files name event
  no_grid : {bytes : List ℕ} {reading : PlainReading} → ReadsFile files (top name) start bytes reading → reading.grid ≡ None
      → MeetsFabric files name (refuses (fault_at name (last_line bytes) (problems.Malformed reasons.Grid)))
  no_tile : {bytes : List ℕ} {reading : PlainReading} {lines : List PlainGridLine} {line : PlainGridLine} → ReadsFile files (top name) start bytes reading → reading.grid ≡ Some lines
      → strange_line reading.types lines ≡ Some line
      → MeetsFabric files name (refuses (fault_at line.file line.line (problems.Malformed reasons.Tile)))
  many_wires : {bytes : List ℕ} {types : List PlainTile} {lines : List PlainGridLine} → ReadsParts files name bytes types lines → most_wires < wire_count (grid_fabric types lines)
      → MeetsFabric files name (refuses (fault_at name (last_line bytes) (problems.Limit quantities.Wires (wire_count (grid_fabric types lines)) most_wires)))

abbrev pub RefusesFabric : (files : Map) (name : List ℕ) → Fault → Type 0
RefusesFabric files name fault = MeetsFabric files name (refuses fault)
