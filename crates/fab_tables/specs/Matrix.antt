-- What the rows of a matrix table say, and why a row is refused. The first row names the inputs behind its first cell, and
-- each further row an output, with a cell `0` or `1` for each input.
use Rattle.std.specs.Prelude.{◌≡◌, ℕ, ◌+◌, ◌==◌, ◌||◌, ◌&&◌, Bool, false, List, [], ◌∷◌, ◌++◌, map, filter, drop, not, length, codes, position, slice_index_or, unwrap_or, is_some, Option, Some, None, if◌then◌else◌}
use Rattle.std.specs.List.{list_all, list_any, find, flat_map, zip}
use Rattle.std.specs.Option.{option_and_then}
use Rattle.std.specs.Str.{bytes_eq}
use Rattle.fab_base.specs.declared.words.Reason.TheVariants as reasons
use Rattle.fab_base.specs.declared.problem.Problem.{Problem}
use Rattle.fab_base.specs.declared.problem.Problem.TheVariants as problems
use Rattle.fab_lines.specs.Names.{is_wire_name}
use Rattle.fab_lines.specs.Order.{Format, IsWhole}
use Rattle.fab_rows.specs.Rows.{PlainRow}
use Rattle.fab_select.specs.declared.pair.Pair.{Pair}
use Rattle.fab_model.specs.Tiles.{PlainTile, TileWire, matrix_names, is_matrix_output, wire_passes}
use Rattle.fab_tables.specs.Lists.{is_long, long_problem}

-- ---- names of a tile

abbrev pub passing : (test : TileWire → Bool) → PlainTile → ℕ → Option ℕ
passing test tile number = if wire_passes test tile number then Some number else None

-- the number of the tile's wire of this name, if there is one that passes the test
abbrev pub number_with : (test : TileWire → Bool) → PlainTile → (name : List ℕ) → Option ℕ
number_with test tile name = option_and_then (passing test tile) (position (bytes_eq name) (matrix_names tile))

abbrev pub output_number : PlainTile → (name : List ℕ) → Option ℕ
output_number tile name = number_with is_matrix_output tile name

abbrev pub input_number : PlainTile → (name : List ℕ) → Option ℕ
input_number tile name = number_with (λ wire. not (is_matrix_output wire)) tile name

-- some name stands among those before it
abbrev pub names_twice : (before names : List (List ℕ)) → Bool
names_twice before [] = false
names_twice before (name ∷ more) = list_any (bytes_eq name) before || names_twice (before ++ name ∷ []) more

-- ---- the first row

abbrev pub cells_behind : (cells : List (List ℕ)) → List (List ℕ)
cells_behind cells = drop 1 cells

abbrev pub inputs_problem : PlainTile → (inputs : List (List ℕ)) → Option Problem
inputs_problem tile inputs =
    if not (list_all is_wire_name inputs) then Some (problems.Malformed reasons.Name)
    else if names_twice [] inputs then Some (problems.Malformed reasons.NameTwice)
    else if not (list_all (λ name. is_some (input_number tile name)) inputs) then Some (problems.Malformed reasons.UnknownName)
    else long_problem (find is_long inputs)

abbrev pub input_numbers : PlainTile → (inputs : List (List ℕ)) → List ℕ
input_numbers tile inputs = map (λ name. unwrap_or (input_number tile name) 0) inputs

-- ---- a further row

abbrev pub output_of : (cells : List (List ℕ)) → List ℕ
output_of cells = slice_index_or cells 0 []

abbrev pub is_one : (cell : List ℕ) → Bool
is_one cell = bytes_eq cell (codes "1")

abbrev pub is_binary : (cell : List ℕ) → Bool
is_binary cell = bytes_eq cell (codes "0") || is_one cell

-- why a row is refused behind a first row of so many inputs, where these outputs have a row already
abbrev pub output_problem : PlainTile → (inputs : ℕ) → (outputs : List (List ℕ)) → (cells : List (List ℕ)) → Option Problem
output_problem tile inputs outputs cells =
    if not (length cells == inputs + 1) then Some (problems.Malformed reasons.Row)
    else if not (is_wire_name (output_of cells)) then Some (problems.Malformed reasons.Name)
    else if list_any (bytes_eq (output_of cells)) outputs then Some (problems.Malformed reasons.NameTwice)
    else if not (is_some (output_number tile (output_of cells))) then Some (problems.Malformed reasons.UnknownName)
    else if not (list_all is_binary (cells_behind cells)) then Some (problems.Malformed reasons.Digit)
    else long_problem (find is_long (output_of cells ∷ []))

abbrev pub pair_with : (output input : ℕ) → Pair
pair_with output input = record { output = output; input = input }

-- the pairs of an output: with each input whose cell is `1`, in the order of the first row
abbrev pub pairs_with : (output : ℕ) → (inputs : List ℕ) → (cells : List (List ℕ)) → List Pair
pairs_with output inputs cells = map (λ column. pair_with output column.0) (filter (λ column. is_one column.1) (zip inputs cells))

abbrev pub pairs_of_row : PlainTile → (inputs : List ℕ) → (cells : List (List ℕ)) → List Pair
pairs_of_row tile inputs cells = pairs_with (unwrap_or (output_number tile (output_of cells)) 0) inputs (cells_behind cells)

-- ---- the table as a whole

abbrev pub matrix_judge : PlainTile → (before : List PlainRow) → PlainRow → Option Problem
matrix_judge tile [] row = inputs_problem tile (cells_behind row.cells)
matrix_judge tile (first ∷ before) row = output_problem tile (length (cells_behind first.cells)) (map (λ other. output_of other.cells) before) row.cells

-- a table has a first row
abbrev pub needs_row : List PlainRow → Option Problem
needs_row [] = Some (problems.Malformed reasons.EndOfFile)
needs_row (first ∷ rows) = None

abbrev pub matrix_format : PlainTile → Format PlainRow
matrix_format tile = record { number = λ row. row.line; judge = matrix_judge tile; ending = needs_row }

-- the pairs row by row, in the order of the inputs
abbrev pub matrix_pairs : PlainTile → List PlainRow → List Pair
matrix_pairs tile [] = []
matrix_pairs tile (first ∷ rows) = flat_map (λ row. pairs_of_row tile (input_numbers tile (cells_behind first.cells)) row.cells) rows

-- no row is refused, and these are the pairs
pub record SpellsMatrix (tile : PlainTile) (rows : List PlainRow) (pairs : List Pair) : Type 0 where
  pub whole : IsWhole (matrix_format tile) rows
  pub in_order : pairs ≡ matrix_pairs tile rows
