-- How the reader of configuration tables follows the rows.
use Rattle.std.specs.Prelude.{ℕ, List, [], ◌∷◌, ◌++◌, Bool, true, false, unwrap_or, option_map, Option, Some, None, Result, Ok, Err, if◌then◌else◌}
use Rattle.fab_base.specs.declared.fault.Fault.{Fault}
use Rattle.fab_base.specs.declared.words.Reason.TheVariants as reasons
use Rattle.fab_base.specs.declared.problem.Problem.{Problem}
use Rattle.fab_base.specs.declared.problem.Problem.TheVariants as problems
use Rattle.fab_lines.specs.Order.{judged, ended, placed, read_all}
use Rattle.fab_rows.specs.Rows.{PlainRow}
use Rattle.fab_model.specs.Tiles.{counted}
use Rattle.fab_tables.specs.declared.entry.Entry.{Entry}
use Rattle.fab_tables.specs.Config.{are_below, header_problem, row_reason, frame_of, row_entries, entry_bits, place_of, is_complete}

-- how many configuration bits the tile has, whether the first row is read, and the frames and the entries so far
pub record TableState : Type 0 where
  pub bits : ℕ
  pub begun : Bool
  pub frames : List ℕ
  pub entries : List Entry

abbrev pub bits_below : (bound : ℕ) → (bits : List ℕ) → Option (List ℕ)
bits_below bound bits = if are_below bound bits then Some bits else None

abbrev pub with_header : TableState → TableState
with_header state = record { bits = state.bits; begun = true; frames = state.frames; entries = state.entries }

abbrev pub with_frame : TableState → (cells : List (List ℕ)) → TableState
with_frame state cells = record { bits = state.bits; begun = state.begun; frames = state.frames ++ frame_of cells ∷ []; entries = state.entries ++ row_entries cells }

abbrev pub row_problem : TableState → (cells : List (List ℕ)) → Option Problem
row_problem state cells = option_map problems.Malformed (row_reason state.bits state.frames (entry_bits state.entries) cells)

abbrev pub behind_first : TableState → (cells : List (List ℕ)) → Result TableState Problem
behind_first state cells = judged (row_problem state cells) (with_frame state cells)

abbrev pub after_cells : TableState → (cells : List (List ℕ)) → Result TableState Problem
after_cells state cells = if state.begun then behind_first state cells else judged (header_problem cells) (with_header state)

abbrev pub after_table_row : TableState → PlainRow → Result TableState Problem
after_table_row state row = after_cells state row.cells

abbrev pub table_start : (bits : ℕ) → TableState
table_start bits = record { bits = bits; begun = false; frames = []; entries = [] }

-- the places of so many bits
abbrev pub table_of : (bits : ℕ) → List Entry → List (ℕ × ℕ)
table_of bits entries = counted bits (λ bit. unwrap_or (place_of entries bit) (0, 0))

abbrev pub unless_placed : (bits : ℕ) → List Entry → Option Problem
unless_placed bits entries = if is_complete bits entries then None else Some (problems.Malformed reasons.Bit)

abbrev pub unless_complete : TableState → Option Problem
unless_complete state =
    if state.begun then unless_placed state.bits state.entries
    else Some (problems.Malformed reasons.EndOfFile)

abbrev pub table_end : TableState → Result (List (ℕ × ℕ)) Problem
table_end state = judged (unless_complete state) (table_of state.bits state.entries)

abbrev pub config_of : (bits : ℕ) → (file : List ℕ) → (last : ℕ) → List PlainRow → Result (List (ℕ × ℕ)) Fault
config_of bits file last rows = placed file (ended table_end last (read_all after_table_row (λ row. row.line) (table_start bits) rows))
