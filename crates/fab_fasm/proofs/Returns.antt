-- Carriage returns outside annotations and comments, byte by byte.
use Rattle.std.proofs.Common.{◌≡◌, ℕ, ◌+◌, ◌<◌, ◌≤◌, Bool, true, false, cond, not, ◌&&◌, eqb, List, [], ◌∷◌, length, drop, get_or, refl, ap, ◌∙◌, inl, inr}
use Rattle.std.specs.List.{list_all}
use Rattle.std.proofs.lemmas.Bool.{and_parts, and_right, not-true, cases_Bool}
use Rattle.std.proofs.lemmas.List.{drop_more, drop_all}
use Rattle.fab_fasm.specs.Parts.{has_return, is_annotated, is_bare}

-- what one byte decides
at_byte : (annotated : Bool) (byte : ℕ) (rest : List ℕ)
    → has_return annotated (byte ∷ rest) ≡ cond (is_bare 13 annotated byte) true (cond (is_bare 35 annotated byte) false (has_return (is_annotated annotated byte) rest))
unfolding has_return
at_byte annotated byte rest = refl

at_place : (annotated : Bool) (text : List ℕ) (place : ℕ) → place < length text → has_return annotated (drop place text)
    ≡ cond (is_bare 13 annotated (get_or text place 0)) true (cond (is_bare 35 annotated (get_or text place 0)) false (has_return (is_annotated annotated (get_or text place 0)) (drop (place + 1) text)))
at_place annotated text place below = ap (has_return annotated) (drop_more text place 0 below) ∙ at_byte annotated (get_or text place 0) (drop (place + 1) text)

pub return_found : (annotated : Bool) (text : List ℕ) (place : ℕ) → place < length text → is_bare 13 annotated (get_or text place 0) ≡ true → has_return annotated (drop place text) ≡ true
return_found annotated text place below is = at_place annotated text place below ∙ rw is refl

pub comment_found : (annotated : Bool) (text : List ℕ) (place : ℕ) → place < length text → is_bare 13 annotated (get_or text place 0) ≡ false → is_bare 35 annotated (get_or text place 0) ≡ true → has_return annotated (drop place text) ≡ false
comment_found annotated text place below none is = at_place annotated text place below ∙ rw (none, is) refl

pub byte_passed : (annotated : Bool) (text : List ℕ) (place : ℕ) → place < length text → is_bare 13 annotated (get_or text place 0) ≡ false → is_bare 35 annotated (get_or text place 0) ≡ false
    → has_return annotated (drop place text) ≡ has_return (is_annotated annotated (get_or text place 0)) (drop (place + 1) text)
byte_passed annotated text place below none no_comment = at_place annotated text place below ∙ rw (none, no_comment) refl

pub nothing_found : (annotated : Bool) (text : List ℕ) (place : ℕ) → length text ≤ place → has_return annotated (drop place text) ≡ false
unfolding has_return
nothing_found annotated text place past = ap (has_return annotated) (drop_all place text past)

-- a text without carriage returns
pub no_return : (annotated : Bool) (text : List ℕ) → list_all (λ byte. not (eqb byte 10) && not (eqb byte 13)) text ≡ true → has_return annotated text ≡ false
unfolding has_return
no_return annotated [] clean = refl
no_return annotated (byte ∷ text) clean =
    let both = and_parts (not (eqb byte 10) && not (eqb byte 13)) (list_all (λ b. not (eqb b 10) && not (eqb b 13)) text) clean in
    let other : eqb byte 13 ≡ false = not-true (eqb byte 13) (and_parts (not (eqb byte 10)) (not (eqb byte 13)) both.0).1 in
    let none : is_bare 13 annotated byte ≡ false = and_right (not annotated) (eqb byte 13) other in
    let rest = no_return (is_annotated annotated byte) text both.1 in
    elim (cases_Bool (is_bare 35 annotated byte)) [
      | inl comment ↦ rw (none, comment) refl
      | inr goes_on ↦ rw (none, goes_on) rest
    ]
