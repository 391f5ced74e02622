-- The rows that pass a test, by number.
use Rattle.std.proofs.Common.{◌≡◌, ℕ, zero, suc, ◌+◌, ◌-◌, ◌<◌, Bool, true, false, cond, List, [], ◌∷◌, ◌++◌, length, get_or, drop, slice_get, refl, sym, ap, ◌∙◌, arith, option_map, nat_eq, inl, inr, append_assoc, append-nil}
use Rattle.std.proofs.lemmas.Bool.{cases_Bool}
use Rattle.std.proofs.lemmas.Bool.Decides.{nat_tests}
use Rattle.std.proofs.lemmas.List.{drop_more}
use Rattle.std.proofs.Math.Seq.{drop-length}
use Rattle.fab_model.specs.declared.tiles.WireRow.{WireRow}
use Rattle.fab_model.specs.Cascade.{nth_row}

-- the numbers of the rows that pass, where the first row has this number
abbrev pub passing : (test : WireRow → Bool) → (first : ℕ) → List WireRow → List ℕ
passing test first [] = []
passing test first (row ∷ rows) = cond (test row) (first ∷ passing test (first + 1) rows) (passing test (first + 1) rows)

-- they are found in turn
pub passing_in_turn : (test : WireRow → Bool) (first : ℕ) (rows : List WireRow) (i : ℕ) → slice_get (passing test first rows) i ≡ option_map (λ found. found.0) (nth_row test rows first i)
passing_in_turn test first [] i = refl
passing_in_turn test first (row ∷ rows) zero =
    elim (cases_Bool (test row)) [
      | inl t ↦ rw t refl
      | inr f ↦ rw f (passing_in_turn test (first + 1) rows zero)
    ]
passing_in_turn test first (row ∷ rows) (suc i) =
    let later : nat_eq (suc i) 0 ≡ false = grind (arith, nat_tests) in
    let last : suc i - 1 ≡ i = omega arith in
    elim (cases_Bool (test row)) [
      | inl t ↦ rw (t, later, last) (passing_in_turn test (first + 1) rows i)
      | inr f ↦ rw f (passing_in_turn test (first + 1) rows (suc i))
    ]

-- a row more that passes
pub passing_yes : (test : WireRow → Bool) (rows : List WireRow) (found all : List ℕ) (number : ℕ) (d : WireRow) → number < length rows → test (get_or rows number d) ≡ true →
    found ++ passing test number (drop number rows) ≡ all → (found ++ number ∷ []) ++ passing test (number + 1) (drop (number + 1) rows) ≡ all
passing_yes test rows found all number d within passes so_far =
    append_assoc found (number ∷ []) (passing test (number + 1) (drop (number + 1) rows))
    ∙ sym (ap (λ rest. found ++ passing test number rest) (drop_more rows number d within)
    ∙ ap (λ b. found ++ cond b (number ∷ passing test (number + 1) (drop (number + 1) rows)) (passing test (number + 1) (drop (number + 1) rows))) passes)
    ∙ so_far

-- a row more that fails
pub passing_no : (test : WireRow → Bool) (rows : List WireRow) (found all : List ℕ) (number : ℕ) (d : WireRow) → number < length rows → test (get_or rows number d) ≡ false →
    found ++ passing test number (drop number rows) ≡ all → found ++ passing test (number + 1) (drop (number + 1) rows) ≡ all
passing_no test rows found all number d within fails so_far =
    sym (ap (λ rest. found ++ passing test number rest) (drop_more rows number d within)
    ∙ ap (λ b. found ++ cond b (number ∷ passing test (number + 1) (drop (number + 1) rows)) (passing test (number + 1) (drop (number + 1) rows))) fails)
    ∙ so_far

-- the rows of a whole list
pub passing_all : (test : WireRow → Bool) (rows : List WireRow) (found : List ℕ) (number : ℕ) → number ≡ length rows →
    found ++ passing test number (drop number rows) ≡ passing test 0 rows → (i : ℕ) → slice_get found i ≡ option_map (λ found. found.0) (nth_row test rows 0 i)
passing_all test rows found number is so_far i =
    ap (λ numbers. slice_get numbers i) (sym (append-nil found) ∙ sym (ap (λ rest. found ++ passing test number rest) (ap (λ n. drop n rows) is ∙ drop-length rows)) ∙ so_far)
    ∙ passing_in_turn test 0 rows i
