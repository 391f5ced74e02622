-- The lines of entries, one after the other.
use Rattle.std.proofs.Common.{◌≡◌, ℕ, zero, suc, ◌+◌, ◌-◌, true, false, List, [], ◌∷◌, length, filter, refl, sym, ap, ◌∙◌, arith}
use Rattle.std.specs.Prelude.{not, ◌==◌}
use Rattle.std.specs.Str.Lines.{lines}
use Rattle.fab_texts.specs.Rows.{PlainRow, words, row_at, rows_from, holds_word, entry_line}

-- the rows of a text whose first line has this number
abbrev pub text_rows : (number : ℕ) → (text : List ℕ) → List PlainRow
text_rows number text = filter holds_word (rows_from number (lines text))

later : (row : PlainRow) (rows : List PlainRow) (left : ℕ) → (left ≡ 1 → ⊥) → entry_line (row ∷ rows) left ≡ entry_line rows (left - 1)
later row rows zero other = refl
later row rows (suc zero) other = absurd (other refl)
later row rows (suc (suc before)) other = let one : suc before ≡ suc (suc before) - 1 = omega arith in ap (entry_line rows) one

with_row : (number : ℕ) (text line after : List ℕ) → lines text ≡ line ∷ lines after → not (length (words line) == 0) ≡ true → text_rows number text ≡ row_at number line ∷ text_rows (number + 1) after
with_row number text line after cut some = ap (λ (ls : List (List ℕ)). filter holds_word (rows_from number ls)) cut ∙ rw some refl

pub without_row : (number : ℕ) (text line after : List ℕ) → lines text ≡ line ∷ lines after → not (length (words line) == 0) ≡ false → text_rows number text ≡ text_rows (number + 1) after
without_row number text line after cut none = ap (λ (ls : List (List ℕ)). filter holds_word (rows_from number ls)) cut ∙ rw none refl

pub entry_here : (number left whole : ℕ) (text line after : List ℕ) → lines text ≡ line ∷ lines after → not (length (words line) == 0) ≡ true → left ≡ 1 → entry_line (text_rows number text) left ≡ whole → number ≡ whole
entry_here number left whole text line after cut some one so_far =
    let here : entry_line (text_rows number text) left ≡ number = ap (λ (rows : List PlainRow). entry_line rows left) (with_row number text line after cut some) ∙ ap (entry_line (row_at number line ∷ text_rows (number + 1) after)) one in
    sym here ∙ so_far

pub entry_later : (number left whole : ℕ) (text line after : List ℕ) → lines text ≡ line ∷ lines after → not (length (words line) == 0) ≡ true → (left ≡ 1 → ⊥) → entry_line (text_rows number text) left ≡ whole
    → entry_line (text_rows (number + 1) after) (left - 1) ≡ whole
entry_later number left whole text line after cut some other so_far =
    sym (later (row_at number line) (text_rows (number + 1) after) left other) ∙ sym (ap (λ (rows : List PlainRow). entry_line rows left) (with_row number text line after cut some)) ∙ so_far

pub entry_other : (number left whole : ℕ) (text line after : List ℕ) → lines text ≡ line ∷ lines after → not (length (words line) == 0) ≡ false → entry_line (text_rows number text) left ≡ whole
    → entry_line (text_rows (number + 1) after) left ≡ whole
entry_other number left whole text line after cut none so_far = sym (ap (λ (rows : List PlainRow). entry_line rows left) (without_row number text line after cut none)) ∙ so_far

no_entry : (left : ℕ) → entry_line [] left ≡ 0
no_entry zero = refl
no_entry (suc before) = refl

pub entry_none : (number left whole : ℕ) (text : List ℕ) → lines text ≡ [] → entry_line (text_rows number text) left ≡ whole → 0 ≡ whole
entry_none number left whole text none so_far = sym (no_entry left) ∙ sym (ap (λ (ls : List (List ℕ)). entry_line (filter holds_word (rows_from number ls)) left) none) ∙ so_far
