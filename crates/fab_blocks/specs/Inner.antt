-- What a row says that leaves what was read so far as it is, but perhaps for the block in which it stands; and what a parameter tells.
use Rattle.std.specs.Prelude.{ℕ, List, ◌==◌, ◌||◌, ◌&&◌, not, nat_lt, length, codes, Option, Some, None, Result, Ok, Err, if◌then◌else◌}
use Rattle.std.specs.Str.{bytes_eq}
use Rattle.fab_base.specs.declared.problem.Problem.{Problem}
use Rattle.fab_base.specs.declared.problem.Problem.TheVariants as problems
use Rattle.fab_base.specs.declared.words.Reason.{Reason}
use Rattle.fab_base.specs.declared.words.Reason.TheVariants as reasons
use Rattle.fab_base.specs.declared.words.Quantity.TheVariants as quantities
use Rattle.fab_lines.specs.Order.{judged}
use Rattle.fab_paths.specs.Paths.{stem, is_path, resolved}
use Rattle.fab_model.specs.declared.mode.Mode.{Mode}
use Rattle.fab_model.specs.declared.mode.Mode.TheVariants as modes
use Rattle.fab_model.specs.declared.tiles.Dir.{Dir}
use Rattle.fab_blocks.specs.declared.words.Word.{Word}
use Rattle.fab_blocks.specs.declared.words.Word.TheVariants as rows
use Rattle.fab_blocks.specs.declared.standing.Said.{Said}
use Rattle.fab_blocks.specs.declared.standing.Said.TheVariants as said
use Rattle.fab_blocks.specs.Cells.{first_problem, cell_at}
use Rattle.fab_blocks.specs.Blocks.{PlainBlock, with_row, with_matrix}
use Rattle.fab_blocks.specs.Rows.{WireCells, row_of, wire_problem, kind_of, bel_problem, matrix_problem, with_bel_of}
use Rattle.fab_blocks.specs.Reading.{PlainHolder}

abbrev pub malformed : {X : Type 0} → Reason → Result X Problem
malformed reason = Err (problems.Malformed reason)

unfoldable pub foreign_row : (cells : List (List ℕ)) → Result Said Problem
foreign_row cells = Err (problems.Unsupported (cell_at cells 0))

-- ---- parameters

-- frames keep the configuration, or a chain of flip-flops
unfoldable pub mode_problem : (value : List ℕ) → Option Problem
mode_problem value =
    if bytes_eq value (codes "frame_based") then None
    else if bytes_eq value (codes "FlipFlopChain") then None
    else Some (problems.Malformed reasons.Row)

-- the mode behind a row of parameters; the last row of the key counts
unfoldable pub told_mode : (key value : List ℕ) → Mode → Mode
told_mode key value old =
    if bytes_eq key (codes "ConfigBitMode") then (if bytes_eq value (codes "FlipFlopChain") then modes.Chain else modes.Frames)
    else old

-- Frames have 32 bits for each row and columns have 20 frames. Other keys have no effect, whatever their value.
unfoldable pub value_problem : (key value : List ℕ) → Option Problem
value_problem key value =
    if bytes_eq key (codes "ConfigBitMode") then mode_problem value
    else if bytes_eq key (codes "FrameBitsPerRow") && not (bytes_eq value (codes "32")) then Some (problems.Unsupported key)
    else if bytes_eq key (codes "MaxFramesPerCol") && not (bytes_eq value (codes "20")) then Some (problems.Unsupported key)
    else None

-- ---- other files

unfoldable pub path_problem : PlainHolder → (cells : List (List ℕ)) → Option Problem
path_problem holder cells =
    if not (length cells == 2) then Some (problems.Malformed reasons.Row)
    else if not (is_path holder.file (cell_at cells 1)) then Some (problems.Malformed reasons.Name)
    else None

abbrev pub file_named : PlainHolder → (cells : List (List ℕ)) → List ℕ
file_named holder cells = resolved holder.file (cell_at cells 1)

-- at most 8 INCLUDE rows are open
unfoldable pub depth_problem : PlainHolder → Option Problem
depth_problem holder = if holder.left == 0 then Some (problems.Limit quantities.IncludeDepth 9 8) else None

unfoldable pub include_row : PlainHolder → (cells : List (List ℕ)) → Result Said Problem
include_row holder cells = judged (first_problem (path_problem holder cells) (depth_problem holder)) (said.Includes (file_named holder cells))

unfoldable pub tiles_row : PlainHolder → (cells : List (List ℕ)) → Result Said Problem
tiles_row holder cells = judged (path_problem holder cells) (said.NamesTiles (file_named holder cells))

-- ---- rows outside of blocks

unfoldable pub outer_row : PlainHolder → Word → (cells : List (List ℕ)) → Result Said Problem
outer_row holder rows.Foreign cells = foreign_row cells
outer_row holder rows.Tile cells = if holder.is_fabric then tiles_row holder cells else malformed reasons.Row
outer_row holder rows.Include cells = include_row holder cells
outer_row holder _ cells = malformed reasons.Row

-- ---- rows of a tile block

-- the block becomes this one, where nothing is wrong
abbrev pub goes_on : Option Problem → PlainBlock → Result (PlainBlock × Said) Problem
goes_on problem block = judged problem (block, said.Taken)

abbrev pub beside : PlainBlock → Result Said Problem → Result (PlainBlock × Said) Problem
beside block (Ok says) = Ok (block, says)
beside block (Err problem) = Err problem

abbrev pub wire_cells : Dir → (cells : List (List ℕ)) → WireCells
wire_cells dir cells = record { dir = dir; source = cell_at cells 1; dx = cell_at cells 2; dy = cell_at cells 3; dest = cell_at cells 4; count = cell_at cells 5 }

unfoldable pub wire_row : PlainBlock → Dir → (cells : List (List ℕ)) → Result (PlainBlock × Said) Problem
wire_row block dir cells =
    if nat_lt (length cells) 6 then malformed reasons.Row
    else goes_on (wire_problem block (wire_cells dir cells)) (with_row block (row_of (wire_cells dir cells)))

unfoldable pub bel_row : PlainBlock → PlainHolder → (cells : List (List ℕ)) → Result (PlainBlock × Said) Problem
bel_row block holder cells =
    if not ((length cells == 2) || (length cells == 3)) then malformed reasons.Row
    else goes_on (bel_problem block holder.file (cell_at cells 1) (cell_at cells 2)) (with_bel_of block (kind_of (stem (cell_at cells 1))) (cell_at cells 2))

unfoldable pub matrix_row : PlainBlock → PlainHolder → (cells : List (List ℕ)) → Result (PlainBlock × Said) Problem
matrix_row block holder cells =
    if not (length cells == 2) then malformed reasons.Row
    else goes_on (matrix_problem block holder.file (cell_at cells 1)) (with_matrix block (file_named holder cells))

unfoldable pub block_row : PlainBlock → PlainHolder → Word → (cells : List (List ℕ)) → Result (PlainBlock × Said) Problem
block_row block holder rows.Foreign cells = beside block (foreign_row cells)
block_row block holder rows.Include cells = beside block (include_row holder cells)
block_row block holder rows.Bel cells = bel_row block holder cells
block_row block holder rows.Matrix cells = matrix_row block holder cells
block_row block holder (rows.Wire dir) cells = wire_row block dir cells
block_row block holder _ cells = malformed reasons.Row

-- what a row may say that ends no block
abbrev pub IsPlain : Said → Type 0
IsPlain (said.EndsTile block) = ⊥
IsPlain _ = Unit {0}
