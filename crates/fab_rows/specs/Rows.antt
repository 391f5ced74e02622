-- The rows of a table: the lines that have cells, with their numbers.
use Rattle.std.specs.Prelude.{ℕ, ◌+◌, ◌==◌, Bool, List, [], ◌∷◌, map, filter, not, length, unwrap_or, option_map}
use Rattle.std.specs.Str.Lines.{lines}
use Rattle.csv.specs.Machine.{next_record}
use Rattle.csv.specs.Reading.{default_config, strip_bom}
use Rattle.csv.specs.declared.parser.State.TheVariants as states
use Rattle.fab_lines.specs.Parts.{uncommented, trimmed, without_back, is_empty_cell}

-- the number of a line, and its cells
pub record PlainRow : Type 0 where
  pub line : ℕ
  pub cells : List (List ℕ)

-- The fields of the first record that csv finds in a line which it reads alone, behind a byte order mark; none where it
-- finds no record.
abbrev pub fields_of_line : (line : List ℕ) → List (List ℕ)
fields_of_line line = unwrap_or (option_map (λ found. found.0) (next_record default_config states.StartRecord [] [] (strip_bom line))) []

-- the cells of a line: these fields of what stands before its comment, trimmed, without the empty ones at the end
abbrev pub cells_of_line : (line : List ℕ) → List (List ℕ)
cells_of_line line = without_back is_empty_cell (map trimmed (fields_of_line (uncommented line)))

-- lines as rows, of which the first has this number
abbrev pub rows_from : (number : ℕ) → List (List ℕ) → List PlainRow
rows_from number [] = []
rows_from number (line ∷ rest) = record { line = number; cells = cells_of_line line } ∷ rows_from (number + 1) rest

abbrev pub has_cells : PlainRow → Bool
has_cells row = not (length row.cells == 0)

-- the rows of a text whose first line has this number
abbrev pub rows_at : (number : ℕ) (bytes : List ℕ) → List PlainRow
rows_at number bytes = filter has_cells (rows_from number (lines bytes))

-- the rows of a text
abbrev pub rows_of : (bytes : List ℕ) → List PlainRow
rows_of bytes = filter has_cells (rows_from 1 (lines bytes))
