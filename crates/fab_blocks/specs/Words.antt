-- What the first cell of a row says that the row is.
use Rattle.std.specs.Prelude.{ℕ, Bool, List, codes, ◌||◌, Option, Some, None, if◌then◌else◌}
use Rattle.std.specs.Str.{bytes_eq}
use Rattle.fab_model.specs.declared.tiles.Dir.{Dir}
use Rattle.fab_model.specs.declared.tiles.Dir.TheVariants as dirs
use Rattle.fab_blocks.specs.declared.words.Word.{Word}
use Rattle.fab_blocks.specs.declared.words.Word.TheVariants as rows

-- the words that begin and end blocks
abbrev pub mark_or : (else_word : Word) → (cell : List ℕ) → Word
mark_or else_word cell =
    if bytes_eq cell (codes "FabricBegin") then rows.FabricBegin
    else if bytes_eq cell (codes "FabricEnd") then rows.FabricEnd
    else if bytes_eq cell (codes "ParametersBegin") then rows.ParametersBegin
    else if bytes_eq cell (codes "ParametersEnd") then rows.ParametersEnd
    else if bytes_eq cell (codes "TILE") then rows.TileBegin
    else if bytes_eq cell (codes "EndTILE") then rows.TileEnd
    else else_word

-- constructs that are not supported
unfoldable pub is_foreign : List ℕ → Bool
is_foreign cell = bytes_eq cell (codes "SuperTILE") || bytes_eq cell (codes "Supertile") || bytes_eq cell (codes "GEN_IO")

unfoldable pub dir_of : List ℕ → Option Dir
dir_of cell =
    if bytes_eq cell (codes "NORTH") then Some dirs.North
    else if bytes_eq cell (codes "EAST") then Some dirs.East
    else if bytes_eq cell (codes "SOUTH") then Some dirs.South
    else if bytes_eq cell (codes "WEST") then Some dirs.West
    else if bytes_eq cell (codes "JUMP") then Some dirs.Jump
    else None

abbrev pub wire_or : (else_word : Word) → Option Dir → Word
wire_or else_word None = else_word
wire_or else_word (Some dir) = rows.Wire dir

-- a row inside a block, or outside of all
unfoldable pub inner_word : (cell : List ℕ) → Word
inner_word cell =
    if is_foreign cell then rows.Foreign
    else if bytes_eq cell (codes "Tile") then rows.Tile
    else if bytes_eq cell (codes "INCLUDE") then rows.Include
    else if bytes_eq cell (codes "BEL") then rows.Bel
    else if bytes_eq cell (codes "MATRIX") then rows.Matrix
    else wire_or rows.Other (dir_of cell)

unfoldable pub word_of : (cell : List ℕ) → Word
word_of cell = mark_or (inner_word cell) cell
