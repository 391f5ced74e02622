-- How the reader of lists follows the rows.
use Rattle.std.specs.Prelude.{ℕ, List, [], ◌∷◌, ◌++◌, Result, Ok, Err}
use Rattle.fab_base.specs.declared.fault.Fault.{Fault}
use Rattle.fab_base.specs.declared.problem.Problem.{Problem}
use Rattle.fab_lines.specs.Order.{ended, placed, read_all}
use Rattle.fab_rows.specs.Rows.{PlainRow}
use Rattle.fab_tables.specs.Lists.{PlainBody, PlainListRow, row_body}

-- the file in which the rows stand, and those so far
pub record ListSoFar : Type 0 where
  pub file : List ℕ
  pub rows : List PlainListRow

abbrev pub with_body : List PlainListRow → (line : ℕ) → Result PlainBody Problem → Result (List PlainListRow) Problem
with_body list line (Ok body) = Ok (list ++ record { line = line; body = body } ∷ [])
with_body list line (Err problem) = Err problem

abbrev pub so_far : (file : List ℕ) → Result (List PlainListRow) Problem → Result ListSoFar Problem
so_far file (Ok rows) = Ok (record { file = file; rows = rows })
so_far file (Err problem) = Err problem

abbrev pub after_row : ListSoFar → PlainRow → Result ListSoFar Problem
after_row list row = so_far list.file (with_body list.rows row.line (row_body list.file row.cells))

abbrev pub list_start : (file : List ℕ) → ListSoFar
list_start file = record { file = file; rows = [] }

-- nothing is asked at the end of a list
abbrev pub list_end : ListSoFar → Result (List PlainListRow) Problem
list_end list = Ok list.rows

abbrev pub list_of : (file : List ℕ) (last : ℕ) → List PlainRow → Result (List PlainListRow) Fault
list_of file last rows = placed file (ended list_end last (read_all after_row (λ row. row.line) (list_start file) rows))
