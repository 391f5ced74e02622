-- A line and the lines that it goes on in, taken one after the other.
use Rattle.std.proofs.Common.{◌≡◌, ℕ, zero, suc, ◌+◌, ◌-◌, ◌<◌, ◌≤◌, true, false, List, [], ◌∷◌, ◌++◌, length, map, replicate, refl, sym, ap, ◌∙◌, arith, add-one, append_assoc, append-nil}
use Rattle.std.specs.Str.Lines.{lines}
use Rattle.fab_lines.specs.Joined.{goes_on, without_last, onto_next, joined, joined_lines, lines_left}
use Rattle.fab_lines.specs.Parts.{uncommented}
use Rattle.fab_lines.proofs.FirstLine.{lines_of_none}

-- the joined lines of a text, where this front of the first was taken from so many lines before it
abbrev pub pending : (front : List ℕ) (count : ℕ) (text : List (List ℕ)) → List (List ℕ)
pending front zero [] = []
pending front (suc count) [] = front ∷ replicate count []
pending front count (line ∷ rest) = (front ++ line) ∷ (replicate count [] ++ rest)

pub pending_none : (text : List (List ℕ)) → text ≡ pending [] 0 text
pending_none [] = refl
pending_none (line ∷ rest) = refl

one_blank_more : (count : ℕ) (rest : List (List ℕ)) → replicate count [] ++ [] ∷ rest ≡ [] ∷ (replicate count [] ++ rest)
one_blank_more zero rest = refl
one_blank_more (suc count) rest = ap (λ (l : List (List ℕ)). [] ∷ l) (one_blank_more count rest)

pending_goes_on : (front more : List ℕ) (count : ℕ) (text : List (List ℕ)) → pending front count (onto_next more text) ≡ pending (front ++ more) (suc count) text
pending_goes_on front more zero [] = refl
pending_goes_on front more (suc count) [] = ap (λ (l : List (List ℕ)). (front ++ more) ∷ [] ∷ l) (append-nil (replicate count []))
pending_goes_on front more zero (line ∷ rest) = ap (λ (l : List ℕ). l ∷ [] ∷ rest) (sym (append_assoc front more line))
pending_goes_on front more (suc count) (line ∷ rest) =
    ap (λ (l : List ℕ). l ∷ [] ∷ (replicate count [] ++ [] ∷ rest)) (sym (append_assoc front more line))
    ∙ ap (λ (l : List (List ℕ)). ((front ++ more) ++ line) ∷ [] ∷ l) (one_blank_more count rest)

joined_goes_on : (line : List ℕ) (rest : List (List ℕ)) → goes_on line ≡ true → joined (line ∷ rest) ≡ onto_next (without_last line) (joined rest)
joined_goes_on line rest on = rw on refl

joined_ends : (line : List ℕ) (rest : List (List ℕ)) → goes_on line ≡ false → joined (line ∷ rest) ≡ line ∷ joined rest
joined_ends line rest on = rw on refl

-- a line that goes on
pub pending_more : (whole : List (List ℕ)) (front more : List ℕ) (count : ℕ) (text line after : List ℕ)
    → whole ≡ pending front count (joined_lines text) → lines text ≡ line ∷ lines after → goes_on (uncommented line) ≡ true → more ≡ without_last (uncommented line)
    → whole ≡ pending (front ++ more) (count + 1) (joined_lines after)
pending_more whole front more count text line after so_far cut on is =
    so_far
    ∙ ap (λ (ls : List (List ℕ)). pending front count (joined (map uncommented ls))) cut
    ∙ ap (pending front count) (joined_goes_on (uncommented line) (map uncommented (lines after)) on)
    ∙ pending_goes_on front (without_last (uncommented line)) count (joined_lines after)
    ∙ ap (λ (m : List ℕ). pending (front ++ m) (suc count) (joined_lines after)) (sym is)
    ∙ ap (λ (k : ℕ). pending (front ++ more) k (joined_lines after)) (sym (add-one count))

-- a line that does not
pub pending_last : (whole : List (List ℕ)) (front last : List ℕ) (count : ℕ) (text line after : List ℕ)
    → whole ≡ pending front count (joined_lines text) → lines text ≡ line ∷ lines after → last ≡ uncommented line → goes_on last ≡ false
    → whole ≡ (front ++ last) ∷ lines_left count after
pending_last whole front last count text line after so_far cut is off =
    so_far
    ∙ ap (λ (ls : List (List ℕ)). pending front count (joined (map uncommented ls))) cut
    ∙ ap (λ (l : List ℕ). pending front count (joined (l ∷ map uncommented (lines after)))) (sym is)
    ∙ ap (pending front count) (joined_ends last (map uncommented (lines after)) off)
    ∙ joined_pending front last count (joined_lines after)
  where
    joined_pending : (front line : List ℕ) (count : ℕ) (rest : List (List ℕ)) → pending front count (line ∷ rest) ≡ (front ++ line) ∷ (replicate count [] ++ rest)
    joined_pending front line zero rest = refl
    joined_pending front line (suc count) rest = refl

joined_none : (text : List ℕ) → length text ≡ 0 → joined_lines text ≡ []
joined_none text none = ap (λ (ls : List (List ℕ)). joined (map uncommented ls)) (lines_of_none text none)

-- the text ends after a line that goes on
pub pending_end : (whole : List (List ℕ)) (front : List ℕ) (count : ℕ) (text : List ℕ) → whole ≡ pending front count (joined_lines text) → length text ≡ 0 → 0 < count
    → whole ≡ front ∷ lines_left (count - 1) text
pending_end whole front count text so_far none some =
    so_far
    ∙ ap (pending front count) (joined_none text none)
    ∙ ended front count some
    ∙ ap (λ (l : List (List ℕ)). front ∷ (replicate (count - 1) [] ++ l)) (sym (joined_none text none))
  where
    ended : (front : List ℕ) (count : ℕ) → 0 < count → pending front count [] ≡ front ∷ (replicate (count - 1) [] ++ [])
    ended front zero some = absurd (omega arith)
    ended front (suc count) some =
        let less : suc count - 1 ≡ count = omega arith in
        ap (λ (l : List (List ℕ)). front ∷ l) (sym (append-nil (replicate count []))) ∙ ap (λ (k : ℕ). front ∷ (replicate k [] ++ [])) (sym less)

-- an empty line in front
pub left_blank : (blanks : ℕ) (bytes : List ℕ) → 0 < blanks → lines_left blanks bytes ≡ [] ∷ lines_left (blanks - 1) bytes
left_blank zero bytes some = absurd (omega arith)
left_blank (suc blanks) bytes some =
    let less : suc blanks - 1 ≡ blanks = omega arith in
    ap (λ (k : ℕ). [] ∷ lines_left k bytes) (sym less)

-- no line is left
pub left_none : (blanks : ℕ) (bytes : List ℕ) → blanks ≤ 0 → length bytes ≡ 0 → lines_left blanks bytes ≡ []
left_none zero bytes none empty = joined_none bytes empty
left_none (suc blanks) bytes none empty = absurd (omega arith)
