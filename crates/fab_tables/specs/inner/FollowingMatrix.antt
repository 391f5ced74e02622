-- How the reader of matrix tables follows the rows.
use Rattle.std.specs.Prelude.{◌≡◌, ℕ, List, [], ◌∷◌, ◌++◌, Bool, map, length, is_some, Option, Some, None, Result, Ok, Err, if◌then◌else◌}
use Rattle.std.specs.List.{list_all}
use Rattle.fab_base.specs.declared.fault.Fault.{Fault}
use Rattle.fab_base.specs.declared.words.Reason.TheVariants as reasons
use Rattle.fab_base.specs.declared.problem.Problem.{Problem}
use Rattle.fab_base.specs.declared.problem.Problem.TheVariants as problems
use Rattle.fab_lines.specs.Order.{judged, ended, placed, read_all}
use Rattle.fab_rows.specs.Rows.{PlainRow, rows_of}
use Rattle.fab_select.specs.declared.pair.Pair.{Pair}
use Rattle.fab_model.specs.Tiles.{PlainTile, tile_wires, is_matrix_output}
use Rattle.fab_tables.specs.Matrix.{cells_behind, inputs_problem, input_number, input_numbers, output_of, output_problem, pairs_of_row}

-- the numbers of inputs, where each name is that of one
abbrev pub known_inputs : PlainTile → (inputs : List (List ℕ)) → Option (List ℕ)
known_inputs tile inputs = if list_all (λ name. is_some (input_number tile name)) inputs then Some (input_numbers tile inputs) else None

-- whether each wire of a tile is a matrix output
abbrev pub AreSides : PlainTile → List Bool → Type 0
AreSides tile sides = sides ≡ map is_matrix_output (tile_wires tile)

-- the tile, the numbers of the inputs once the first row is read, the outputs that have a row, and the pairs so far
pub record MatrixState : Type 0 where
  pub tile : PlainTile
  pub inputs : Option (List ℕ)
  pub outputs : List (List ℕ)
  pub pairs : List Pair

abbrev pub with_inputs : MatrixState → List ℕ → MatrixState
with_inputs state inputs = record { tile = state.tile; inputs = Some inputs; outputs = state.outputs; pairs = state.pairs }

abbrev pub with_output : MatrixState → (inputs : List ℕ) → (cells : List (List ℕ)) → MatrixState
with_output state inputs cells = record { tile = state.tile; inputs = state.inputs; outputs = state.outputs ++ output_of cells ∷ []; pairs = state.pairs ++ pairs_of_row state.tile inputs cells }

abbrev pub behind_inputs : MatrixState → (inputs : List ℕ) → (cells : List (List ℕ)) → Result MatrixState Problem
behind_inputs state inputs cells = judged (output_problem state.tile (length inputs) state.outputs cells) (with_output state inputs cells)

abbrev pub taken_by : Option (List ℕ) → MatrixState → (cells : List (List ℕ)) → Result MatrixState Problem
taken_by None state cells = judged (inputs_problem state.tile (cells_behind cells)) (with_inputs state (input_numbers state.tile (cells_behind cells)))
taken_by (Some inputs) state cells = behind_inputs state inputs cells

abbrev pub after_cells : MatrixState → (cells : List (List ℕ)) → Result MatrixState Problem
after_cells state cells = taken_by state.inputs state cells

abbrev pub after_matrix_row : MatrixState → PlainRow → Result MatrixState Problem
after_matrix_row state row = after_cells state row.cells

abbrev pub matrix_start : PlainTile → MatrixState
matrix_start tile = record { tile = tile; inputs = None; outputs = []; pairs = [] }

abbrev pub unless_begun : Option (List ℕ) → Option Problem
unless_begun None = Some (problems.Malformed reasons.EndOfFile)
unless_begun (Some inputs) = None

-- at the end there has to be a first row
abbrev pub matrix_end : MatrixState → Result (List Pair) Problem
matrix_end state = judged (unless_begun state.inputs) state.pairs

abbrev pub matrix_of : PlainTile → (file : List ℕ) → (last : ℕ) → List PlainRow → Result (List Pair) Fault
matrix_of tile file last rows = placed file (ended matrix_end last (read_all after_matrix_row (λ row. row.line) (matrix_start tile) rows))
