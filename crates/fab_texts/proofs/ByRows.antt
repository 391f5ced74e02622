-- Lines that are taken in turn, and the rows of those that hold a word.
use Rattle.std.proofs.Common.{◌≡◌, ℕ, ◌+◌, true, List, [], ◌∷◌, filter, Result, Ok, Err, refl, arith}
use Rattle.std.proofs.lemmas.Bool.Decides.{nat_tests}
use Rattle.fab_base.specs.declared.problem.Problem.{Problem}
use Rattle.fab_lines.specs.Order.{read_from, read_all, goes_on}
use Rattle.fab_texts.specs.Rows.{PlainRow, Word, words, rows_from, holds_word, after_words, after_line, after_row}

-- a line by its number and its bytes
abbrev pub numbered_line : {S : Type 0} → (after : S → List Word → Result S Problem) → S → ℕ → List ℕ → Result S Problem
numbered_line after state number line = after_line after state line

goes_on-same : {S : Type 0} (more other : S → Result S (ℕ × Problem)) (number : ℕ) (answer : Result S Problem) → ((next : S) → more next ≡ other next) → goes_on more number answer ≡ goes_on other number answer
goes_on-same more other number (Ok next) same = same next
goes_on-same more other number (Err problem) same = refl

by_words : {S : Type 0} (after : S → List Word → Result S Problem) (state : S) (number : ℕ) (text : List (List ℕ)) (found : List Word)
    → ((next : S) → read_from (numbered_line after) next (number + 1) text ≡ read_all (after_row after) (λ row. row.line) next (filter holds_word (rows_from (number + 1) text)))
    → goes_on (λ next. read_from (numbered_line after) next (number + 1) text) number (after_words after state found)
    ≡ read_all (after_row after) (λ row. row.line) state (filter holds_word (record { line = number; words = found } ∷ rows_from (number + 1) text))
unfolding read_all
by_words after state number text [] same = same state
by_words {S} after state number text (word ∷ found) same =
    let row : PlainRow = record { line = number; words = word ∷ found } in
    let holds : holds_word row ≡ true = grind (arith, nat_tests) in
    rw holds (goes_on-same (λ next. read_from (numbered_line after) next (number + 1) text) (λ next. read_all (after_row after) (λ r. r.line) next (filter holds_word (rows_from (number + 1) text))) number (after state (word ∷ found)) same)

pub lines_by_rows : {S : Type 0} (after : S → List Word → Result S Problem) (state : S) (number : ℕ) (text : List (List ℕ))
    → read_from (numbered_line after) state number text ≡ read_all (after_row after) (λ row. row.line) state (filter holds_word (rows_from number text))
unfolding read_from read_all
lines_by_rows after state number [] = refl
lines_by_rows after state number (line ∷ text) = by_words after state number text (words line) (λ next. lines_by_rows after next (number + 1) text)
