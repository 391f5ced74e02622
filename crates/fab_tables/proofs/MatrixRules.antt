-- The reader of matrix tables follows their format.
use Rattle.std.proofs.Common.{◌≡◌, ℕ, List, [], ◌∷◌, ◌++◌, Option, Some, None, Ok, map, length, refl, sym, ap, ◌∙◌, append-nil}
use Rattle.std.specs.List.{flat_map}
use Rattle.std.proofs.lemmas.Grind.{flat_map-append}
use Rattle.std.proofs.lemmas.List.{length-map, map_push}
use Rattle.fab_lines.specs.Order.{judged}
use Rattle.fab_lines.proofs.Wholes.{FollowsFormat}
use Rattle.fab_rows.specs.Rows.{PlainRow}
use Rattle.fab_select.specs.declared.pair.Pair.{Pair}
use Rattle.fab_model.specs.Tiles.{PlainTile}
use Rattle.fab_tables.specs.Matrix.{cells_behind, input_number, input_numbers, output_of, output_problem, pairs_of_row, matrix_judge, matrix_format, matrix_pairs}
use Rattle.fab_tables.specs.inner.FollowingMatrix.{MatrixState, after_matrix_row, matrix_start, matrix_end}

abbrev pub outputs_of : List PlainRow → List (List ℕ)
outputs_of rows = map (λ row. output_of row.cells) rows

abbrev pub pairs_behind_first : PlainTile → PlainRow → List PlainRow → List Pair
pairs_behind_first tile first rows = flat_map (λ row. pairs_of_row tile (input_numbers tile (cells_behind first.cells)) row.cells) rows

-- what is known after rows
abbrev pub matrix_summary : PlainTile → List PlainRow → MatrixState
matrix_summary tile [] = matrix_start tile
matrix_summary tile (first ∷ rows) =
    record { tile = tile; inputs = Some (input_numbers tile (cells_behind first.cells)); outputs = outputs_of rows; pairs = pairs_behind_first tile first rows }

-- one row more
pub pairs_more : (tile : PlainTile) (first : PlainRow) (rows : List PlainRow) (row : PlainRow) →
    pairs_behind_first tile first (rows ++ row ∷ []) ≡ pairs_behind_first tile first rows ++ pairs_of_row tile (input_numbers tile (cells_behind first.cells)) row.cells
pairs_more tile first rows row =
    let pairs : PlainRow → List Pair = λ r. pairs_of_row tile (input_numbers tile (cells_behind first.cells)) r.cells in
    flat_map-append pairs rows (row ∷ []) ∙ ap (λ back. flat_map pairs rows ++ back) (append-nil (pairs row))

matrix_step : (tile : PlainTile) (front : List PlainRow) (row : PlainRow) → after_matrix_row (matrix_summary tile front) row ≡ judged (matrix_judge tile front row) (matrix_summary tile (front ++ row ∷ []))
matrix_step tile [] row = refl
matrix_step tile (first ∷ rows) row =
    let inputs = input_numbers tile (cells_behind first.cells) in
    let counted : length inputs ≡ length (cells_behind first.cells) = length-map (cells_behind first.cells) _ in
    let outputs : outputs_of rows ++ output_of row.cells ∷ [] ≡ outputs_of (rows ++ row ∷ []) = sym (map_push (λ (r : PlainRow). output_of r.cells) rows row) in
    let pairs = sym (pairs_more tile first rows row) in
    λ j. judged (output_problem tile (counted j) (outputs_of rows) row.cells) (record { tile = tile; inputs = Some inputs; outputs = outputs j; pairs = pairs j })

matrix_finish : (tile : PlainTile) (text : List PlainRow) → matrix_end (matrix_summary tile text) ≡ judged ((matrix_format tile).ending text) (matrix_pairs tile text)
matrix_finish tile [] = refl
matrix_finish tile (first ∷ rows) = refl

pub follows_matrix : (tile : PlainTile) → FollowsFormat (matrix_format tile) after_matrix_row (matrix_summary tile) matrix_end (matrix_pairs tile)
follows_matrix tile = record {
  lines = record { answers = λ front row fine. matrix_step tile front row };
  end = λ text fine. matrix_finish tile text;
}
