-- Lines are read exactly where their parts say something.
use Rattle.std.proofs.Common.{◌≡◌, ℕ, ◌+◌, List, [], ◌∷◌, ◌++◌, length, None, refl, sym, ap, subst, ◌∙◌, arith}
use Rattle.fab_lines.specs.Order.{IsFine}
use Rattle.fab_fasm.specs.declared.feature.Feature.{Feature}
use Rattle.fab_fasm.specs.Fasm.{line_of, refusal_of, fasm_judge, said, features_from}
use Rattle.fab_fasm.specs.Spelled.{SpellsFrom, ends, goes_on, SpellsFasm, LinesAreTheirParts}
use Rattle.fab_fasm.proofs.PartsRead.{says_read}
use Rattle.fab_fasm.proofs.PartsFound.{line_found}

-- no line of a list is refused, of which the first has this number
abbrev pub AreTaken : (number : ℕ) → List (List ℕ) → Type 0
AreTaken number lines = (before : List (List ℕ)) (line : List ℕ) (after : List (List ℕ)) → lines ≡ before ++ line ∷ after → refusal_of (line_of (length before + number) line) ≡ None

later_taken : (number : ℕ) (line : List ℕ) (lines : List (List ℕ)) → AreTaken number (line ∷ lines) → AreTaken (number + 1) lines
later_taken number line lines taken before other after parts =
    let count : length (line ∷ before) + number ≡ length before + (number + 1) = omega arith in
    subst (λ (n : ℕ). refusal_of (line_of n other) ≡ None) count (taken (line ∷ before) other after (ap (λ (ls : List (List ℕ)). line ∷ ls) parts))

first_taken : (number : ℕ) (line : List ℕ) (lines : List (List ℕ)) → AreTaken number (line ∷ lines) → refusal_of (line_of number line) ≡ None
first_taken number line lines taken =
    let count : 0 + number ≡ number = omega arith in
    subst (λ (n : ℕ). refusal_of (line_of n line) ≡ None) count (taken [] line lines refl)

-- what is read is spelled
spelled_from : (number : ℕ) (lines : List (List ℕ)) → AreTaken number lines → SpellsFrom number lines (features_from number lines)
spelled_from number [] taken = ends
spelled_from number (line ∷ lines) taken = goes_on (line_found number line (first_taken number line lines taken)) (spelled_from (number + 1) lines (later_taken number line lines taken))

pub fine_spelled : (lines : List (List ℕ)) → IsFine fasm_judge lines → SpellsFasm lines (features_from 1 lines)
fine_spelled lines fine = spelled_from 1 lines fine

-- what is spelled is read
record IsReadFrom (number : ℕ) (lines : List (List ℕ)) (features : List Feature) : Type 0 where
  taken : AreTaken number lines
  features_are : features ≡ features_from number lines

cons_head : (x y : List ℕ) (xs ys : List (List ℕ)) → x ∷ xs ≡ y ∷ ys → x ≡ y
cons_head x y xs ys same = cc

cons_tail : (x y : List ℕ) (xs ys : List (List ℕ)) → x ∷ xs ≡ y ∷ ys → xs ≡ ys
cons_tail x y xs ys same = cc

no_line : (number : ℕ) → AreTaken number []
no_line number [] line after parts = absurd cc
no_line number (x ∷ front) line after parts = absurd cc

line_taken : (number : ℕ) (line : List ℕ) (lines : List (List ℕ)) → refusal_of (line_of number line) ≡ None → AreTaken (number + 1) lines → AreTaken number (line ∷ lines)
line_taken number line lines first rest [] other after parts =
    let count : number ≡ 0 + number = omega arith in
    subst (λ (n : ℕ). refusal_of (line_of n other) ≡ None) count (subst (λ (l : List ℕ). refusal_of (line_of number l) ≡ None) (cons_head line other lines after parts) first)
line_taken number line lines first rest (x ∷ before) other after parts =
    let count : length before + (number + 1) ≡ length (x ∷ before) + number = omega arith in
    subst (λ (n : ℕ). refusal_of (line_of n other) ≡ None) count (rest before other after (cons_tail line x lines (before ++ other ∷ after) parts))

read_from_spelled : (number : ℕ) (lines : List (List ℕ)) (features : List Feature) → SpellsFrom number lines features → IsReadFrom number lines features
read_from_spelled number lines features (ends {number = n}) = record { taken = no_line n; features_are = refl }
read_from_spelled number lines features (goes_on {number = n} {line = line} {lines = more} {first = first} {rest = rest} here spelled) =
    let read = says_read n line first here in
    let later = read_from_spelled (n + 1) more rest spelled in
    record {
      taken = line_taken n line more read.taken later.taken;
      features_are = ap (λ (fs : List Feature). fs ++ rest) (sym read.said_is) ∙ ap (λ (fs : List Feature). said (line_of n line) ++ fs) later.features_are;
    }

pub spelled_fine : (lines : List (List ℕ)) (features : List Feature) → SpellsFasm lines features → IsFine fasm_judge lines
spelled_fine lines features spelled = (read_from_spelled 1 lines features spelled).taken

pub spelled_is : (lines : List (List ℕ)) (features : List Feature) → SpellsFasm lines features → features ≡ features_from 1 lines
spelled_is lines features spelled = (read_from_spelled 1 lines features spelled).features_are

pub lines_and_parts : LinesAreTheirParts
lines_and_parts = record {
  line = λ before line. (
    (λ taken. (said (line_of (length before + 1) line), line_found (length before + 1) line taken)),
    λ found. (says_read (length before + 1) line found.0 found.1).taken,
  );
  text = λ lines. ((λ fine. (features_from 1 lines, fine_spelled lines fine)), λ found. spelled_fine lines found.0 found.1);
  once = λ lines first second one other. spelled_is lines first one ∙ sym (spelled_is lines second other);
}
