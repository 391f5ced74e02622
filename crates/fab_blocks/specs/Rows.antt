-- The rows of a tile block: wires, BELs and the file of its switch matrix. Each is judged by the rows before it.
use Rattle.std.specs.Prelude.{ℕ, ◌+◌, Bool, true, false, List, [], ◌++◌, ◌==◌, ◌||◌, ◌&&◌, not, nat_le, nat_eq, length, map, codes, is_some, Option, Some, None, if◌then◌else◌}
use Rattle.std.specs.List.{ends_with}
use Rattle.std.specs.Option.{option_map_or}
use Rattle.std.specs.Str.{bytes_eq}
use Rattle.fab_base.specs.declared.problem.Problem.{Problem}
use Rattle.fab_base.specs.declared.problem.Problem.TheVariants as problems
use Rattle.fab_base.specs.declared.words.Reason.{Reason}
use Rattle.fab_base.specs.declared.words.Reason.TheVariants as reasons
use Rattle.fab_base.specs.declared.words.Quantity.TheVariants as quantities
use Rattle.fab_kinds.specs.declared.kind.Kind.{Kind}
use Rattle.fab_kinds.specs.declared.kind.Kind.TheVariants as kinds
use Rattle.fab_kinds.specs.Pins.{pin_names}
use Rattle.fab_lines.specs.Names.{is_identifier, is_reserved}
use Rattle.fab_lines.specs.Numbers.{is_number, number_of}
use Rattle.fab_paths.specs.Paths.{stem, is_path}
use Rattle.fab_model.specs.declared.tiles.Dir.{Dir}
use Rattle.fab_model.specs.declared.tiles.Dir.TheVariants as dirs
use Rattle.fab_model.specs.declared.tiles.WireRow.{WireRow}
use Rattle.fab_model.specs.Rows.{is_jump, is_named}
use Rattle.fab_blocks.specs.Cells.{is_negative, magnitude, is_zero, is_positive, is_signed, is_null, is_side, come_twice, long_of, first_problem, problem_of}
use Rattle.fab_blocks.specs.Blocks.{PlainBlock, names, row_names, with_bel}

-- ---- wires

-- the cells of a row of wires that count; further ones have no effect
pub record WireCells : Type 0 where
  pub dir : Dir
  pub source : List ℕ
  pub dx : List ℕ
  pub dy : List ℕ
  pub dest : List ℕ
  pub count : List ℕ

abbrev pub span : WireCells → ℕ
span cells = magnitude cells.dx + magnitude cells.dy

abbrev pub side : List ℕ → Option (List ℕ)
side cell = if is_null cell then None else Some cell

abbrev pub row_of : WireCells → WireRow
row_of cells = record { dir = cells.dir; source = side cells.source; span = span cells; dest = side cells.dest; count = number_of cells.count }

-- its numbers are numbers, the wires go at most 31 tiles far, and there is one at least
unfoldable pub has_numbers : WireCells → Bool
has_numbers cells =
    is_signed cells.dx && is_signed cells.dy && is_number cells.count
    && nat_le (span cells) 31 && not (number_of cells.count == 0)

unfoldable pub has_sides : WireCells → Bool
has_sides cells = is_side cells.source && is_side cells.dest

-- X grows to the east and Y downward. A jump stays in its tile.
unfoldable pub points : Dir → (dx dy : List ℕ) → Bool
points dirs.North dx dy = is_zero dx && is_negative dy
points dirs.East dx dy = is_positive dx && is_zero dy
points dirs.South dx dy = is_zero dx && is_positive dy
points dirs.West dx dy = is_negative dx && is_zero dy
points dirs.Jump dx dy = is_zero dx && is_zero dy

abbrev pub is_constant : Option (List ℕ) → Bool
is_constant dest = option_map_or (λ name. bytes_eq name (codes "GND") || bytes_eq name (codes "VCC")) dest false

-- A jump has both ends, or it is a constant, `GND` or `VCC`; every other row has one end at least.
unfoldable pub has_ends : WireRow → Bool
has_ends row =
    if is_jump row.dir then (if is_named row.source then is_named row.dest else is_constant row.dest)
    else is_named row.source || is_named row.dest

unfoldable pub wire_reason : PlainBlock → WireCells → Option Reason
wire_reason block cells =
    if not (has_numbers cells) then Some reasons.Number
    else if not (has_sides cells) then Some reasons.Name
    else if come_twice (names block) (row_names (row_of cells)) then Some reasons.NameTwice
    else if not (points cells.dir cells.dx cells.dy) then Some reasons.Direction
    else if not (has_ends (row_of cells)) then Some reasons.Null
    else None

abbrev pub wire_problem : PlainBlock → WireCells → Option Problem
wire_problem block cells = problem_of (wire_reason block cells) (first_problem (long_of cells.source) (long_of cells.dest))

-- ---- BELs

-- The kinds, by the stems of the files that BEL rows name. Nothing is read from these files.
unfoldable pub kind_of : (stem : List ℕ) → Option Kind
kind_of stem =
    if bytes_eq stem (codes "LUT4c_frame_config") || bytes_eq stem (codes "LUT4c_frame_config_dffesr") then Some kinds.Lut4c
    else if bytes_eq stem (codes "IO_1_bidirectional_frame_config_pass") then Some kinds.Io
    else if bytes_eq stem (codes "MUX8LUT_frame_config") || bytes_eq stem (codes "MUX8LUT_frame_config_mux") then Some kinds.Mux8
    else None

-- a prefix is empty or a name of any length that the generator does not take for itself
unfoldable pub is_prefix : List ℕ → Bool
is_prefix prefix = (length prefix == 0) || (is_identifier prefix && not (is_reserved prefix))

-- only a multiplexer may go without
unfoldable pub may_lack_prefix : Option Kind → Bool
may_lack_prefix (Some kinds.Mux8) = true
may_lack_prefix _ = false

-- the matrix names of a BEL; one of an unknown kind has none
abbrev pub pins_of : Option Kind → (prefix : List ℕ) → List (List ℕ)
pins_of None prefix = []
pins_of (Some kind) prefix = map (λ pin. prefix ++ pin) (pin_names kind)

unfoldable pub bel_reason : PlainBlock → (kind : Option Kind) → (holder file prefix : List ℕ) → Option Reason
bel_reason block kind holder file prefix =
    if not (is_path holder file) then Some reasons.Name
    else if not (is_prefix prefix) then Some reasons.Name
    else if come_twice (names block) (pins_of kind prefix) then Some reasons.NameTwice
    else if (length prefix == 0) && not (may_lack_prefix kind) then Some reasons.Prefix
    else None

-- what is wrong with a BEL that is not malformed; a tile has at most 26
unfoldable pub kind_problem : PlainBlock → (kind : Option Kind) → (file prefix : List ℕ) → Option Problem
kind_problem block kind file prefix =
    if not (is_some kind) then Some (problems.Unsupported (stem file))
    else if nat_le 26 (length block.bels) then Some (problems.Limit quantities.Bels (length block.bels + 1) 26)
    else long_of prefix

abbrev pub bel_problem_of : PlainBlock → (kind : Option Kind) → (holder file prefix : List ℕ) → Option Problem
bel_problem_of block kind holder file prefix = problem_of (bel_reason block kind holder file prefix) (kind_problem block kind file prefix)

abbrev pub bel_problem : PlainBlock → (holder file prefix : List ℕ) → Option Problem
bel_problem block holder file prefix = bel_problem_of block (kind_of (stem file)) holder file prefix

-- with a BEL more, where its kind is known
abbrev pub with_bel_of : PlainBlock → Option Kind → (prefix : List ℕ) → PlainBlock
with_bel_of block None prefix = block
with_bel_of block (Some kind) prefix = with_bel block (record { kind = kind; prefix = prefix })

-- ---- the switch matrix

unfoldable pub is_matrix_file : List ℕ → Bool
is_matrix_file file = ends_with nat_eq file (codes ".list") || ends_with nat_eq file (codes ".csv")

-- a block names one file at most
unfoldable pub matrix_problem : PlainBlock → (holder file : List ℕ) → Option Problem
matrix_problem block holder file =
    if is_some block.matrix then Some (problems.Malformed reasons.Row)
    else if not (is_path holder file) then Some (problems.Malformed reasons.Name)
    else if not (is_matrix_file file) then Some (problems.Unsupported (codes "matrix file"))
    else None
