-- What the rows of a switch list say, and why a row is refused.
use Rattle.std.specs.Prelude.{◌≡◌, ℕ, ◌==◌, ◌||◌, ◌&&◌, Bool, false, List, [], ◌∷◌, ◌++◌, not, nat_lt, length, codes, option_map, if◌then◌else◌, Option, Some, None, Result, Ok, Err}
use Rattle.std.specs.List.{list_all, find, flat_map, zip}
use Rattle.std.specs.Str.{bytes_eq}
use Rattle.std.specs.Str.Lossy.{utf8_valid_len}
use Rattle.fab_base.specs.declared.words.Reason.{Reason}
use Rattle.fab_base.specs.declared.words.Reason.TheVariants as reasons
use Rattle.fab_base.specs.declared.words.Quantity.TheVariants as quantities
use Rattle.fab_base.specs.declared.problem.Problem.{Problem}
use Rattle.fab_base.specs.declared.problem.Problem.TheVariants as problems
use Rattle.fab_lines.specs.Names.{is_wire_name}
use Rattle.fab_lines.specs.Order.{Format, IsWhole}
use Rattle.fab_paths.specs.Paths.{file_of}
use Rattle.fab_rows.specs.Rows.{PlainRow}
use Rattle.fab_tables.specs.Cells.{has_bad_number, is_cell_byte, has_brackets, names, count}

-- an output and an input of a switch matrix, by name
abbrev pub Pair : Type 0
Pair = List ℕ × List ℕ

-- what a row says: the pairs of its two cells, or that the rows of another file stand in its place
pub data PlainBody : Type 0 where
  PairsOf : (pairs : List Pair) → PlainBody
  IncludeOf : (path : List ℕ) → PlainBody

pub record PlainListRow : Type 0 where
  pub line : ℕ
  pub body : PlainBody

-- ---- the two cells

-- the most names of a cell, and the most bytes of a name
abbrev pub most_names : ℕ
most_names = 4096

abbrev pub most_bytes : ℕ
most_bytes = 64

-- how many names a cell has, where its brackets match
abbrev pub size : (cell : List ℕ) → Option ℕ
size cell = if has_brackets cell then Some (count cell) else None

abbrev pub is_wide : Option ℕ → Bool
is_wide None = false
is_wide (Some number) = nat_lt most_names number

-- whether one of two cells of these sizes has too many names: then none of them is judged
abbrev pub are_wide : Option ℕ → Option ℕ → Bool
are_wide first second = is_wide first || is_wide second

-- the names of a cell that are judged
abbrev pub judged_names : (wide : Bool) → Option ℕ → (cell : List ℕ) → List (List ℕ)
judged_names wide None cell = []
judged_names wide (Some number) cell = if wide then [] else names cell

abbrev pub sizes_problem : Option ℕ → Option ℕ → Option Problem
sizes_problem (Some first) (Some second) =
    if not (first == second) then Some (problems.Malformed reasons.CountsDiffer)
    else if nat_lt most_names first then Some (problems.Limit quantities.ExpandedNames first most_names)
    else None
sizes_problem _ _ = Some (problems.Malformed reasons.Bracket)

abbrev pub names_of_cell : (output input cell : List ℕ) → List (List ℕ)
names_of_cell output input cell = judged_names (are_wide (size output) (size input)) (size cell) cell

-- the names of both cells
abbrev pub BothNames : Type 0
BothNames = List (List ℕ) × List (List ℕ)

abbrev pub both_names : (output input : List ℕ) → BothNames
both_names output input = (names_of_cell output input output, names_of_cell output input input)

-- why two cells are refused for their names and their number
abbrev pub weighed_problem : (output input : List ℕ) → Option Problem
weighed_problem output input =
    if not (list_all is_wire_name (names_of_cell output input output) && list_all is_wire_name (names_of_cell output input input)) then Some (problems.Malformed reasons.Name)
    else sizes_problem (size output) (size input)

-- Why two cells are refused for what they are by themselves.
abbrev pub cells_problem : (output input : List ℕ) → Option Problem
cells_problem output input =
    if has_bad_number output || has_bad_number input then Some (problems.Malformed reasons.Number)
    else if not (list_all is_cell_byte output && list_all is_cell_byte input) then Some (problems.Malformed reasons.Name)
    else weighed_problem output input

-- ---- what is asked of a row in turn

-- the second where the first says nothing
abbrev pub asked : {X : Type 0} → Option Problem → Result X Problem → Result X Problem
asked (Some problem) next = Err problem
asked None next = next

abbrev pub is_long : (name : List ℕ) → Bool
is_long name = nat_lt most_bytes (length name)

-- the limit that a name of so many bytes breaks
abbrev pub bytes_limit : (bytes : ℕ) → Problem
bytes_limit bytes = problems.Limit quantities.NameBytes bytes most_bytes

abbrev pub long_problem : Option (List ℕ) → Option Problem
long_problem found = option_map bytes_limit (option_map (λ name. length name) found)

-- Names of outputs and inputs, where `judge pairs` is why the row is refused for what is known of them.
abbrev pub named_body : (judge : List Pair → Option Reason) (outputs inputs : List (List ℕ)) → Result PlainBody Problem
named_body judge outputs inputs =
    asked (option_map problems.Malformed (judge (zip outputs inputs)))
    (asked (long_problem (find is_long (outputs ++ inputs)))
    (Ok (PairsOf (zip outputs inputs))))

abbrev pub pairs_body : (judge : List Pair → Option Reason) (output input : List ℕ) → Result PlainBody Problem
pairs_body judge output input = asked (cells_problem output input) (named_body judge (names_of_cell output input output) (names_of_cell output input input))

-- an INCLUDE row by itself: its path is UTF-8
abbrev pub include_body : (path : List ℕ) → Result PlainBody Problem
include_body path = if utf8_valid_len path == length path then Ok (IncludeOf path) else Err (problems.Malformed reasons.Name)

abbrev pub two_cells : (judge : List Pair → Option Reason) (first second : List ℕ) → Result PlainBody Problem
two_cells judge first second = if bytes_eq first (codes "INCLUDE") then include_body second else pairs_body judge first second

-- what a row of these cells says, or why it is refused
abbrev pub body_of : (judge : List Pair → Option Reason) (cells : List (List ℕ)) → Result PlainBody Problem
body_of judge (first ∷ second ∷ []) = two_cells judge first second
body_of judge _ = Err (problems.Malformed reasons.Row)

-- ---- the list as a whole, where nothing is known beside it

abbrev pub nothing_known : List Pair → Option Reason
nothing_known pairs = None

-- an INCLUDE row, where this is the file that its path means
abbrev pub included : (path : List ℕ) → Option (List ℕ) → Result PlainBody Problem
included path None = Err (problems.Malformed reasons.Name)
included path (Some other) = Ok (IncludeOf path)

-- what a row says that stands in this file: the path of an INCLUDE row has to be one there
abbrev pub placed_body : (file : List ℕ) → Result PlainBody Problem → Result PlainBody Problem
placed_body file (Ok (PairsOf pairs)) = Ok (PairsOf pairs)
placed_body file (Ok (IncludeOf path)) = included path (file_of file path)
placed_body file (Err problem) = Err problem

abbrev pub row_body : (file : List ℕ) (cells : List (List ℕ)) → Result PlainBody Problem
row_body file cells = placed_body file (body_of nothing_known cells)

abbrev pub refusal_of : {X : Type 0} → Result X Problem → Option Problem
refusal_of (Ok value) = None
refusal_of (Err problem) = Some problem

abbrev pub list_format : (file : List ℕ) → Format PlainRow
list_format file = record { number = λ row. row.line; judge = λ before row. refusal_of (row_body file row.cells); ending = λ rows. None }

abbrev pub row_with : (line : ℕ) → Result PlainBody Problem → List PlainListRow
row_with line (Ok body) = record { line = line; body = body } ∷ []
row_with line (Err problem) = []

abbrev pub listed : (file : List ℕ) → PlainRow → List PlainListRow
listed file row = row_with row.line (row_body file row.cells)

-- no row of the file is refused, and these are the rows with what they say
pub record SpellsList (file : List ℕ) (rows : List PlainRow) (list : List PlainListRow) : Type 0 where
  pub whole : IsWhole (list_format file) rows
  pub in_order : list ≡ flat_map (listed file) rows
