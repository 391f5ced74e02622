-- What was read so far of a fabric file and of the files that stand in it.
use Rattle.std.specs.Prelude.{◌≡◌, ◌≢◌, ◌≤◌, ◌<◌, ℕ, Bool, true, false, All, AllPairs, List, [], ◌∷◌, ◌++◌, map, length, Option, Some, None}
use Rattle.std.specs.Option.{ForSome}
use Rattle.fab_model.specs.declared.mode.Mode.{Mode}
use Rattle.fab_model.specs.declared.mode.Mode.TheVariants as modes
use Rattle.fab_model.specs.declared.tiles.Bel.{Bel}
use Rattle.fab_model.specs.Tiles.{PlainTile}
use Rattle.fab_blocks.specs.declared.standing.OpenBlock.{OpenBlock}
use Rattle.fab_blocks.specs.declared.standing.OpenBlock.TheVariants as blocks
use Rattle.fab_blocks.specs.declared.standing.Parameters.{Parameters}
use Rattle.fab_blocks.specs.declared.standing.Parameters.TheVariants as parts
use Rattle.fab_blocks.specs.declared.standing.Place.{Place}
use Rattle.fab_blocks.specs.declared.standing.Place.TheVariants as places

-- a line of the grid: where it stands, and its cells
pub record PlainGridLine : Type 0 where
  pub file : List ℕ
  pub line : ℕ
  pub cells : List (List ℕ)

pub record PlainReading : Type 0 where
  -- the tiles whose blocks have ended, in their order
  pub types : List PlainTile
  -- the lines of the grid, where its block has begun
  pub grid : Option (List PlainGridLine)
  pub parameters : Parameters
  -- the mode that the last row of its key has told; frames where there is none
  pub configuration : Mode
  -- the grid or the tile block that is open
  pub begun : OpenBlock

abbrev pub start : PlainReading
start = record { types = []; grid = None; parameters = parts.Absent; configuration = modes.Frames; begun = blocks.Outside }

-- Where a row stands: its file, whether that is a fabric file or is included in one (else it holds tiles alone), whether the block that is open, if one is, was begun in this
-- file, and how many INCLUDE rows may still be opened.
pub record PlainHolder : Type 0 where
  pub file : List ℕ
  pub is_fabric : Bool
  pub is_own : Bool
  pub left : ℕ

-- ---- where a row stands

abbrev pub is_open_block : Parameters → Bool
is_open_block parts.Open = true
is_open_block _ = false

-- A file of tiles may be named inside the parameter block, and stands outside of it.
abbrev pub place_in : OpenBlock → Parameters → (is_fabric : Bool) → Place
place_in blocks.Grid parameters is_fabric = places.Grid
place_in (blocks.Tile block) parameters is_fabric = places.Tile
place_in blocks.Outside parts.Open true = places.Parameters
place_in blocks.Outside _ _ = places.Outside

abbrev pub place_of : PlainReading → (is_fabric : Bool) → Place
place_of reading is_fabric = place_in reading.begun reading.parameters is_fabric

abbrev pub is_inside : Place → Bool
is_inside places.Outside = false
is_inside _ = true

-- ---- names of tiles

abbrev pub open_name : OpenBlock → List (List ℕ)
open_name (blocks.Tile block) = block.name ∷ []
open_name _ = []

-- the names of all tiles so far, also of one whose block is open
abbrev pub tile_names : PlainReading → List (List ℕ)
tile_names reading = map (λ tile. tile.name) reading.types ++ open_name reading.begun

-- ---- one row more

abbrev pub with_open_block : PlainReading → OpenBlock → PlainReading
with_open_block reading begun = record reading { begun = begun }

abbrev pub with_grid : PlainReading → List PlainGridLine → OpenBlock → PlainReading
with_grid reading lines begun = record reading { grid = Some lines; begun = begun }

abbrev pub with_parameters : PlainReading → Parameters → PlainReading
with_parameters reading parameters = record reading { parameters = parameters }

abbrev pub with_configuration : PlainReading → Mode → PlainReading
with_configuration reading mode = record reading { configuration = mode }

abbrev pub with_type : PlainReading → PlainTile → PlainReading
with_type reading tile = record reading { types = reading.types ++ tile ∷ [] }

-- ---- what holds of every reading

-- a tile of this name with these BELs may come to these
pub record HasRoom (types : List PlainTile) (name : List ℕ) (bels : List Bel) : Type 0 where
  pub fresh : All (λ tile. tile.name ≢ name) types
  pub room : length types < 64
  pub few_bels : length bels ≤ 26

abbrev pub HasRoomFor : List PlainTile → OpenBlock → Type 0
HasRoomFor types (blocks.Tile block) = HasRoom types block.name block.bels
HasRoomFor types _ = Unit {0}

-- the lines of the grid are alike
pub record IsGrid (lines : List PlainGridLine) : Type 0 where
  pub few_rows : length lines ≤ 31
  pub some_columns : All (λ line. 1 ≤ length line.cells) lines
  pub few_columns : All (λ line. length line.cells ≤ 32) lines
  pub alike : AllPairs (λ first second. length first.cells ≡ length second.cells) lines

-- only a grid whose block is open may have no line
abbrev pub HasLines : OpenBlock → List PlainGridLine → Type 0
HasLines blocks.Grid lines = Unit {0}
HasLines _ lines = 1 ≤ length lines

pub record IsReading (reading : PlainReading) : Type 0 where
  pub names : AllPairs (λ first second. first.name ≢ second.name) reading.types
  pub few_types : length reading.types ≤ 64
  pub few_bels : All (λ tile. length tile.bels ≤ 26) reading.types
  pub room : HasRoomFor reading.types reading.begun
  pub grid : ForSome reading.grid IsGrid
  pub lines : ForSome reading.grid (HasLines reading.begun)
