-- What a matrix table spells are pairs of the tile.
use Rattle.std.proofs.Common.{◌≡◌, ℕ, Bool, true, false, not, ◌||◌, ◌&&◌, ◌+◌, List, [], ◌∷◌, ◌++◌, Option, Some, None, length, map, cond, eqb, All, refl, sym, ap, subst, ◌∙◌, inl, inr, append_assoc, append-nil}
use Rattle.std.specs.Prelude.{unwrap_or, is_some, position, if◌then◌else◌}
use Rattle.std.specs.List.{list_all, list_any, find, filter, zip}
use Rattle.std.specs.Option.{option_and_then}
use Rattle.std.specs.Str.{bytes_eq}
use Rattle.std.proofs.lemmas.Bool.{cases_Bool, not-false, and_parts}
use Rattle.std.proofs.lemmas.List.Elements.{All-nil, All-cons, All-append, All-head, All-tail}
use Rattle.fab_base.specs.declared.words.Reason.TheVariants as reasons
use Rattle.fab_base.specs.declared.problem.Problem.{Problem}
use Rattle.fab_base.specs.declared.problem.Problem.TheVariants as problems
use Rattle.fab_lines.specs.Names.{is_wire_name}
use Rattle.fab_lines.specs.Order.{IsFine, IsWhole}
use Rattle.fab_lines.proofs.Judging.{fine_at}
use Rattle.fab_rows.specs.Rows.{PlainRow}
use Rattle.fab_select.specs.declared.pair.Pair.{Pair}
use Rattle.fab_model.specs.Tiles.{PlainTile, TileWire, IsPair, is_matrix_output, matrix_names, wire_passes}
use Rattle.fab_tables.specs.Matrix.{passing, number_with, input_number, output_number, cells_behind, inputs_problem, input_numbers, output_of, output_problem, names_twice, is_binary, is_one, pair_with, pairs_with, pairs_of_row, matrix_judge, matrix_format, matrix_pairs, SpellsMatrix}
use Rattle.fab_tables.specs.Lists.{is_long, long_problem}
use Rattle.fab_tables.proofs.MatrixRules.{pairs_behind_first}

-- ---- numbers by name

passed : (test : TileWire → Bool) (tile : PlainTile) (number : ℕ) → is_some (passing test tile number) ≡ true → wire_passes test tile (unwrap_or (passing test tile number) 0) ≡ true
passed test tile number there = elim (cases_Bool (wire_passes test tile number)) [
  | inl passes ↦ rw passes passes
  | inr fails ↦ (let none = rw fails at there in absurd cc)
]

passed_at : (test : TileWire → Bool) (tile : PlainTile) (found : Option ℕ) → is_some (option_and_then (passing test tile) found) ≡ true → wire_passes test tile (unwrap_or (option_and_then (passing test tile) found) 0) ≡ true
passed_at test tile None there = absurd cc
passed_at test tile (Some number) there = passed test tile number there

pub number_passes : (test : TileWire → Bool) (tile : PlainTile) (name : List ℕ) → is_some (number_with test tile name) ≡ true → wire_passes test tile (unwrap_or (number_with test tile name) 0) ≡ true
number_passes test tile name there = passed_at test tile (position (bytes_eq name) (matrix_names tile)) there

abbrev pub IsInput : PlainTile → ℕ → Type 0
IsInput tile number = wire_passes (λ wire. not (is_matrix_output wire)) tile number ≡ true

inputs_known : (tile : PlainTile) (names : List (List ℕ)) → list_all (λ name. is_some (input_number tile name)) names ≡ true → All (IsInput tile) (input_numbers tile names)
inputs_known tile [] known = All-nil (IsInput tile)
inputs_known tile (name ∷ names) known =
    let parts = and_parts (is_some (input_number tile name)) _ known in
    All-cons (IsInput tile) (unwrap_or (input_number tile name) 0) (input_numbers tile names) (number_passes (λ wire. not (is_matrix_output wire)) tile name parts.0) (inputs_known tile names parts.1)

-- ---- the pairs of one row

abbrev chosen : (output : ℕ) → List (ℕ × List ℕ) → List Pair
chosen output columns = map (λ column. pair_with output column.0) (filter (λ column. is_one column.1) columns)

columns_paired : (tile : PlainTile) (output : ℕ) (inputs : List ℕ) (cells : List (List ℕ)) → wire_passes is_matrix_output tile output ≡ true → All (IsInput tile) inputs → All (IsPair tile) (chosen output (zip inputs cells))
columns_paired tile output [] cells driven known = All-nil (IsPair tile)
columns_paired tile output (input ∷ inputs) [] driven known = All-nil (IsPair tile)
columns_paired tile output (input ∷ inputs) (cell ∷ cells) driven known =
    let rest = columns_paired tile output inputs cells driven (All-tail (IsInput tile) input inputs known) in
    let pair : IsPair tile (pair_with output input) = record { output = driven; input = All-head (IsInput tile) input inputs known } in
    elim (cases_Bool (is_one cell)) [
      | inl one ↦ rw one (All-cons (IsPair tile) (pair_with output input) (chosen output (zip inputs cells)) pair rest)
      | inr none ↦ rw none rest
    ]

third_passes : (first second third : Bool) (one two three : Problem) (next : Option Problem) → cond (not first) (Some one) (cond second (Some two) (cond (not third) (Some three) next)) ≡ None → third ≡ true
third_passes true false true one two three next none = refl
third_passes true false false one two three next none = absurd cc
third_passes true true third one two three next none = absurd cc
third_passes false second third one two three next none = absurd cc

fourth_passes : (zeroth first second third : Bool) (zero one two three : Problem) (next : Option Problem) → cond (not zeroth) (Some zero) (cond (not first) (Some one) (cond second (Some two) (cond (not third) (Some three) next))) ≡ None → third ≡ true
fourth_passes true first second third zero one two three next none = third_passes first second third one two three next none
fourth_passes false first second third zero one two three next none = absurd cc

second_fails : (zeroth first second : Bool) (zero one two : Problem) (next : Option Problem) → cond (not zeroth) (Some zero) (cond (not first) (Some one) (cond second (Some two) next)) ≡ None → second ≡ false
second_fails true true false zero one two next none = refl
second_fails true true true zero one two next none = absurd cc
second_fails true false second zero one two next none = absurd cc
second_fails false first second zero one two next none = absurd cc

pub fine_inputs : (tile : PlainTile) (names : List (List ℕ)) → inputs_problem tile names ≡ None → All (IsInput tile) (input_numbers tile names)
fine_inputs tile names none =
    inputs_known tile names
    (third_passes (list_all is_wire_name names) (names_twice [] names) (list_all (λ name. is_some (input_number tile name)) names)
    (problems.Malformed reasons.Name) (problems.Malformed reasons.NameTwice) (problems.Malformed reasons.UnknownName) (long_problem (find is_long names)) none)

pub fine_output : (tile : PlainTile) (inputs : ℕ) (outputs cells : List (List ℕ)) → output_problem tile inputs outputs cells ≡ None → wire_passes is_matrix_output tile (unwrap_or (output_number tile (output_of cells)) 0) ≡ true
fine_output tile inputs outputs cells none =
    number_passes is_matrix_output tile (output_of cells)
    (fourth_passes (eqb (length cells) (inputs + 1)) (is_wire_name (output_of cells)) (list_any (bytes_eq (output_of cells)) outputs) (is_some (output_number tile (output_of cells)))
    (problems.Malformed reasons.Row) (problems.Malformed reasons.Name) (problems.Malformed reasons.NameTwice) (problems.Malformed reasons.UnknownName)
    (if not (list_all is_binary (cells_behind cells)) then Some (problems.Malformed reasons.Digit) else long_problem (find is_long (output_of cells ∷ []))) none)

pub new_output : (tile : PlainTile) (inputs : ℕ) (outputs cells : List (List ℕ)) → output_problem tile inputs outputs cells ≡ None → list_any (bytes_eq (output_of cells)) outputs ≡ false
new_output tile inputs outputs cells none =
    second_fails (eqb (length cells) (inputs + 1)) (is_wire_name (output_of cells)) (list_any (bytes_eq (output_of cells)) outputs)
    (problems.Malformed reasons.Row) (problems.Malformed reasons.Name) (problems.Malformed reasons.NameTwice)
    (if not (is_some (output_number tile (output_of cells))) then Some (problems.Malformed reasons.UnknownName)
    else if not (list_all is_binary (cells_behind cells)) then Some (problems.Malformed reasons.Digit)
    else long_problem (find is_long (output_of cells ∷ []))) none

-- ---- the pairs of rows

rows_paired : (tile : PlainTile) (first : PlainRow) (front rest : List PlainRow) → All (IsInput tile) (input_numbers tile (cells_behind first.cells)) → IsFine (matrix_judge tile) (first ∷ front ++ rest)
    → All (IsPair tile) (pairs_behind_first tile first rest)
rows_paired tile first front [] known fine = All-nil (IsPair tile)
rows_paired tile first front (row ∷ rest) known fine =
    let none = fine_at (matrix_judge tile) (first ∷ front) row rest fine in
    let same : (front ++ row ∷ []) ++ rest ≡ front ++ row ∷ rest = append_assoc front (row ∷ []) rest in
    let inputs = input_numbers tile (cells_behind first.cells) in
    All-append (IsPair tile) (pairs_of_row tile inputs row.cells) (pairs_behind_first tile first rest)
    (columns_paired tile (unwrap_or (output_number tile (output_of row.cells)) 0) inputs (cells_behind row.cells) (fine_output tile (length (cells_behind first.cells)) (map (λ other. output_of other.cells) front) row.cells none) known)
    (rows_paired tile first (front ++ row ∷ []) rest known (subst (λ (rows : List PlainRow). IsFine (matrix_judge tile) (first ∷ rows)) (sym same) fine))

pairs_known : (tile : PlainTile) (rows : List PlainRow) → IsFine (matrix_judge tile) rows → All (IsPair tile) (matrix_pairs tile rows)
pairs_known tile [] fine = All-nil (IsPair tile)
pairs_known tile (first ∷ rows) fine = rows_paired tile first [] rows (fine_inputs tile (cells_behind first.cells) (fine_at (matrix_judge tile) [] first rows fine)) fine

pub spelled_matrix : (tile : PlainTile) (rows : List PlainRow) (pairs : List Pair) → IsWhole (matrix_format tile) rows × (pairs ≡ matrix_pairs tile rows) → SpellsMatrix tile rows pairs
spelled_matrix tile rows pairs (whole, is) = record { whole = whole; in_order = is }

pub pairs_of_tile : (tile : PlainTile) (rows : List PlainRow) (pairs : List Pair) → IsWhole (matrix_format tile) rows × (pairs ≡ matrix_pairs tile rows) → All (IsPair tile) pairs
pairs_of_tile tile rows pairs (whole, is) = subst (All (IsPair tile)) (sym is) (pairs_known tile rows whole.fine)
