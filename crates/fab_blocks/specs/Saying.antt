-- What a row of a fabric file or of a tile file says, after what was read so far, and why it is refused, if it is.
use Rattle.std.specs.Prelude.{◌≡◌, ℕ, ◌+◌, Bool, true, false, List, [], ◌∷◌, ◌++◌, ◌==◌, ◌||◌, ◌&&◌, not, nat_le, nat_lt, length, is_some, unwrap_or, Option, Some, None, Result, Ok, Err, if◌then◌else◌}
use Rattle.std.specs.List.{list_all}
use Rattle.fab_base.specs.declared.problem.Problem.{Problem}
use Rattle.fab_base.specs.declared.problem.Problem.TheVariants as problems
use Rattle.fab_base.specs.declared.words.Reason.{Reason}
use Rattle.fab_base.specs.declared.words.Reason.TheVariants as reasons
use Rattle.fab_base.specs.declared.words.Quantity.TheVariants as quantities
use Rattle.fab_lines.specs.Order.{judged}
use Rattle.fab_rows.specs.Rows.{PlainRow}
use Rattle.fab_blocks.specs.declared.words.Word.{Word}
use Rattle.fab_blocks.specs.declared.words.Word.TheVariants as rows
use Rattle.fab_blocks.specs.declared.standing.OpenBlock.{OpenBlock}
use Rattle.fab_blocks.specs.declared.standing.OpenBlock.TheVariants as blocks
use Rattle.fab_blocks.specs.declared.standing.Parameters.{Parameters}
use Rattle.fab_blocks.specs.declared.standing.Parameters.TheVariants as parts
use Rattle.fab_blocks.specs.declared.standing.Place.{Place}
use Rattle.fab_blocks.specs.declared.standing.Place.TheVariants as places
use Rattle.fab_blocks.specs.declared.standing.Said.{Said}
use Rattle.fab_blocks.specs.declared.standing.Said.TheVariants as said
use Rattle.fab_blocks.specs.Cells.{is_null, is_tile_name, long_of, long_problem, problem_of, cell_at}
use Rattle.fab_lines.specs.Items.{is_among}
use Rattle.fab_blocks.specs.Words.{word_of}
use Rattle.fab_blocks.specs.Blocks.{PlainBlock, new_block}
use Rattle.fab_blocks.specs.Inner.{malformed, foreign_row, value_problem, told_mode, tiles_row, outer_row, block_row}
use Rattle.fab_blocks.specs.Reading.{PlainReading, HasRoom, PlainGridLine, PlainHolder, place_of, tile_names, with_open_block, with_grid, with_parameters, with_configuration}

-- what a row says, and what was read then
abbrev pub Step : Type 0
Step = PlainReading × Said

-- what a row says that leaves what was read so far as it is
abbrev pub with_said : PlainReading → Result Said Problem → Result Step Problem
with_said reading (Ok says) = Ok (reading, says)
with_said reading (Err problem) = Err problem

unfoldable pub is_place : Place → Place → Bool
is_place places.Outside places.Outside = true
is_place places.Grid places.Grid = true
is_place places.Parameters places.Parameters = true
is_place places.Tile places.Tile = true
is_place _ _ = false

-- where a row stands, after what was read so far
unfoldable pub stands : PlainReading → PlainHolder → Place → Bool
stands reading holder place = is_place (place_of reading holder.is_fabric) place

-- ---- the grid

-- a fabric has one grid; it stands outside of other blocks, in the fabric file or in one that is included there
unfoldable pub may_begin : PlainReading → PlainHolder → (begun : Bool) → Bool
may_begin reading holder begun = stands reading holder places.Outside && holder.is_fabric && not begun

unfoldable pub begin_grid : PlainReading → PlainHolder → (cells : List (List ℕ)) → Result Step Problem
begin_grid reading holder cells =
    if not (length cells == 1) then malformed reasons.Row
    else if not (may_begin reading holder (is_some reading.grid)) then malformed reasons.Block
    else Ok (with_grid reading [] blocks.Grid, said.Taken)

abbrev pub lines_of : PlainReading → List PlainGridLine
lines_of reading = unwrap_or reading.grid []

-- a block ends in the file in which it began
unfoldable pub end_grid : PlainReading → PlainHolder → (cells : List (List ℕ)) → Result Step Problem
end_grid reading holder cells =
    if not (length cells == 1) then malformed reasons.Row
    else if not (stands reading holder places.Grid && holder.is_own) then malformed reasons.Block
    else if length (lines_of reading) == 0 then malformed reasons.Grid
    else Ok (with_open_block reading blocks.Outside, said.Taken)

-- a cell names a tile, or the place is empty
unfoldable pub is_grid_cell : List ℕ → Bool
is_grid_cell cell = is_null cell || is_tile_name cell

-- as many cells as in the first line
unfoldable pub fits_grid : List PlainGridLine → (cells : List (List ℕ)) → Bool
fits_grid [] cells = true
fits_grid (first ∷ more) cells = length first.cells == length cells

unfoldable pub line_reason : List PlainGridLine → (cells : List (List ℕ)) → Option Reason
line_reason lines cells =
    if not (list_all is_grid_cell cells) then Some reasons.Name
    else if not (fits_grid lines cells) then Some reasons.Grid
    else None

-- at most 32 columns and 31 rows
unfoldable pub line_limit : List PlainGridLine → (cells : List (List ℕ)) → Option Problem
line_limit lines cells =
    if nat_lt 32 (length cells) then Some (problems.Limit quantities.Columns (length cells) 32)
    else if nat_le 31 (length lines) then Some (problems.Limit quantities.Rows (length lines + 1) 31)
    else long_problem cells

abbrev pub line_problem : List PlainGridLine → (cells : List (List ℕ)) → Option Problem
line_problem lines cells = problem_of (line_reason lines cells) (line_limit lines cells)

abbrev pub with_line : PlainReading → PlainHolder → PlainRow → PlainReading
with_line reading holder row = with_grid reading (lines_of reading ++ record { file = holder.file; line = row.line; cells = row.cells } ∷ []) reading.begun

unfoldable pub grid_line : PlainReading → PlainHolder → PlainRow → Result Step Problem
grid_line reading holder row = judged (line_problem (lines_of reading) row.cells) (with_line reading holder row, said.Taken)

-- ---- parameters

abbrev pub parameters_begun : Parameters → Bool
parameters_begun parts.Absent = false
parameters_begun parts.Open = true
parameters_begun parts.Ended = true

unfoldable pub begin_parameters : PlainReading → PlainHolder → (cells : List (List ℕ)) → Result Step Problem
begin_parameters reading holder cells =
    if not (length cells == 1) then malformed reasons.Row
    else if not (may_begin reading holder (parameters_begun reading.parameters)) then malformed reasons.Block
    else Ok (with_parameters reading parts.Open, said.Taken)

unfoldable pub end_parameters : PlainReading → PlainHolder → (cells : List (List ℕ)) → Result Step Problem
end_parameters reading holder cells =
    if not (length cells == 1) then malformed reasons.Row
    else if not (stands reading holder places.Parameters && holder.is_own) then malformed reasons.Block
    else Ok (with_parameters reading parts.Ended, said.Taken)

-- what was read then, where a parameter has this value
abbrev pub with_parameter : PlainReading → (key value : List ℕ) → PlainReading
with_parameter reading key value = with_configuration reading (told_mode key value reading.configuration)

unfoldable pub parameter_row : PlainReading → (cells : List (List ℕ)) → Result Step Problem
parameter_row reading cells =
    if not (length cells == 2) then malformed reasons.Row
    else judged (value_problem (cell_at cells 0) (cell_at cells 1)) (with_parameter reading (cell_at cells 0) (cell_at cells 1), said.Taken)

-- a row in the block of parameters
unfoldable pub inner_parameter : PlainReading → PlainHolder → Word → (cells : List (List ℕ)) → Result Step Problem
inner_parameter reading holder rows.Foreign cells = with_said reading (foreign_row cells)
inner_parameter reading holder rows.Tile cells = with_said reading (tiles_row holder cells)
inner_parameter reading holder _ cells = parameter_row reading cells

-- ---- tile blocks

unfoldable pub begin_reason : PlainReading → PlainHolder → (cells : List (List ℕ)) → Option Reason
begin_reason reading holder cells =
    if not (length cells == 2) then Some reasons.Row
    else if not (is_tile_name (cell_at cells 1)) then Some reasons.Name
    else if is_among (tile_names reading) (cell_at cells 1) then Some reasons.NameTwice
    else if not (stands reading holder places.Outside) then Some reasons.Block
    else None

-- at most 64 tiles
unfoldable pub begin_limit : PlainReading → (name : List ℕ) → Option Problem
begin_limit reading name =
    if nat_le 64 (length reading.types) then Some (problems.Limit quantities.TileTypes (length reading.types + 1) 64)
    else long_of name

abbrev pub begin_problem : PlainReading → PlainHolder → (cells : List (List ℕ)) → Option Problem
begin_problem reading holder cells = problem_of (begin_reason reading holder cells) (begin_limit reading (cell_at cells 1))

unfoldable pub begin_tile : PlainReading → PlainHolder → (cells : List (List ℕ)) → Result Step Problem
begin_tile reading holder cells =
    judged (begin_problem reading holder cells)
    (with_open_block reading (blocks.Tile (new_block (cell_at cells 1))), said.Taken)

-- the block that is open is handed out, in the file in which it began
abbrev pub handed_out : PlainReading → OpenBlock → (is_own : Bool) → Result Step Problem
handed_out reading (blocks.Tile block) true = Ok (with_open_block reading blocks.Outside, said.EndsTile block)
handed_out reading _ _ = malformed reasons.Block

unfoldable pub end_tile : PlainReading → PlainHolder → (cells : List (List ℕ)) → Result Step Problem
end_tile reading holder cells =
    if not (length cells == 1) then malformed reasons.Row else handed_out reading reading.begun holder.is_own

-- ---- other rows, by where they stand

abbrev pub with_block : PlainReading → Result (PlainBlock × Said) Problem → Result Step Problem
with_block reading (Ok step) = Ok (with_open_block reading (blocks.Tile step.0), step.1)
with_block reading (Err problem) = Err problem

unfoldable pub row_in : PlainReading → OpenBlock → PlainHolder → Word → PlainRow → Result Step Problem
row_in reading blocks.Grid holder word row = grid_line reading holder row
row_in reading (blocks.Tile block) holder word row = with_block reading (block_row block holder word row.cells)
row_in reading blocks.Outside holder word row =
    if stands reading holder places.Parameters then inner_parameter reading holder word row.cells else with_said reading (outer_row holder word row.cells)

-- the words that begin and end blocks keep their meaning everywhere
unfoldable pub say : PlainReading → PlainHolder → Word → PlainRow → Result Step Problem
say reading holder rows.FabricBegin row = begin_grid reading holder row.cells
say reading holder rows.FabricEnd row = end_grid reading holder row.cells
say reading holder rows.ParametersBegin row = begin_parameters reading holder row.cells
say reading holder rows.ParametersEnd row = end_parameters reading holder row.cells
say reading holder rows.TileBegin row = begin_tile reading holder row.cells
say reading holder rows.TileEnd row = end_tile reading holder row.cells
say reading holder word row = row_in reading reading.begun holder word row

-- A row has cells.
unfoldable pub said_of : PlainReading → PlainHolder → PlainRow → Result Step Problem
said_of reading holder row = if length row.cells == 0 then malformed reasons.Row else say reading holder (word_of (cell_at row.cells 0)) row

-- where a block is handed out, no other is open, and its tile may come to those that were read
abbrev pub HasRoomIfEnded : PlainReading → Said → Type 0
HasRoomIfEnded reading (said.EndsTile block) = (reading.begun ≡ blocks.Outside) × HasRoom reading.types block.name block.bels
HasRoomIfEnded reading _ = Unit {0}
