-- The reader of lists follows their format.
use Rattle.std.proofs.Common.{◌≡◌, ℕ, List, [], ◌∷◌, ◌++◌, Result, Ok, Err, refl, sym, ap, ◌∙◌}
use Rattle.std.specs.List.{flat_map}
use Rattle.std.proofs.lemmas.Grind.{flat_map-append}
use Rattle.fab_base.specs.declared.problem.Problem.{Problem}
use Rattle.fab_lines.specs.Order.{judged}
use Rattle.fab_lines.proofs.Wholes.{FollowsFormat}
use Rattle.fab_rows.specs.Rows.{PlainRow}
use Rattle.fab_tables.specs.Lists.{PlainBody, PlainListRow, row_body, refusal_of, row_with, listed, list_format}
use Rattle.fab_tables.specs.inner.Following.{ListSoFar, with_body, so_far, after_row, list_end}

abbrev pub list_summary : (file : List ℕ) → List PlainRow → ListSoFar
list_summary file rows = record { file = file; rows = flat_map (listed file) rows }

one_row : (file : List ℕ) (list : List PlainListRow) (line : ℕ) (body : Result PlainBody Problem) → so_far file (with_body list line body) ≡ judged (refusal_of body) (record { file = file; rows = list ++ (row_with line body ++ []) })
one_row file list line (Ok body) = refl
one_row file list line (Err problem) = refl

-- the reader follows the format
pub follows_list : (file : List ℕ) → FollowsFormat (list_format file) after_row (list_summary file) list_end (flat_map (listed file))
follows_list file = record {
  lines = record {
    answers = λ front row fine.
        one_row file (flat_map (listed file) front) row.line (row_body file row.cells)
        ∙ ap (λ (rows : List PlainListRow). judged (refusal_of (row_body file row.cells)) (record { file = file; rows = rows })) (sym (flat_map-append (listed file) front (row ∷ [])));
  };
  end = λ text fine. refl;
}
