-- Names that are too long, paths that are UTF-8, and names in pairs.
use Rattle.std.proofs.Common.{◌≡◌, ℕ, ◌+◌, ◌<◌, ◌≤◌, Bool, true, false, List, [], ◌∷◌, ◌++◌, length, take, get_or, min, cond, Option, Some, None, Result, Ok, Err, refl, sym, ap, ap₂, ◌∙◌, arith, inl, inr}
use Rattle.std.specs.Prelude.{option_map, MatchResult, is_err, ◌==◌, if◌then◌else◌}
use Rattle.std.specs.List.{find, zip}
use Rattle.std.specs.Str.{IsUtf8}
use Rattle.std.specs.Str.Lossy.{utf8_valid_len}
use Rattle.std.proofs.lemmas.Bool.{cases_Bool}
use Rattle.std.proofs.lemmas.List.{take_more, take_all}
use Rattle.std.proofs.lemmas.Slice.Zip.{length-zip, get_or-zip}
use Rattle.std.proofs.lemmas.Str.{utf8_valid_len-IsUtf8}

-- what is found in the first of two lists is found in both
pub found_in_first : {X Y : Type 0} (f : X → Y) (test : X → Bool) (xs ys : List X) (y : Y) → Some y ≡ option_map f (find test xs) → Some y ≡ option_map f (find test (xs ++ ys))
found_in_first f test [] ys y found = absurd cc
found_in_first f test (x ∷ xs) ys y found = elim (cases_Bool (test x)) [
  | inl passes ↦ (let here = rw passes at found in rw passes here)
  | inr fails ↦ (let rest = rw fails at found in rw fails (found_in_first f test xs ys y rest))
]

-- else what is found in the second is
pub found_in_second : {X Y : Type 0} (f : X → Y) (test : X → Bool) (xs ys : List X) → None ≡ option_map f (find test xs) → option_map f (find test ys) ≡ option_map f (find test (xs ++ ys))
found_in_second f test [] ys none = refl
found_in_second f test (x ∷ xs) ys none = elim (cases_Bool (test x)) [
  | inl passes ↦ (let here = rw passes at none in absurd cc)
  | inr fails ↦ (let rest = rw fails at none in rw fails (found_in_second f test xs ys rest))
]

-- one pair more
pub pair_more : {X Y : Type 0} (xs : List X) (ys : List Y) (place : ℕ) (x seen : X) (y other : Y) → place < min (length xs) (length ys) → x ≡ seen → seen ≡ get_or xs place seen → y ≡ other → other ≡ get_or ys place other
    → take (place + 1) (zip xs ys) ≡ take place (zip xs ys) ++ (x, y) ∷ []
pair_more {X} {Y} xs ys place x seen y other below first first_is second second_is =
    let pair : X → Y → X × Y = λ a b. (a, b) in
    take_more (zip xs ys) place (seen, other) (omega (arith, length-zip xs ys))
    ∙ ap (λ (p : X × Y). take place (zip xs ys) ++ p ∷ []) (get_or-zip xs ys place (seen, other) (omega arith) (omega arith) ∙ sym (ap₂ pair (first ∙ first_is) (second ∙ second_is)))

-- all pairs
pub all_pairs : {X Y : Type 0} (xs : List X) (ys : List Y) (place : ℕ) → min (length xs) (length ys) ≤ place → take place (zip xs ys) ≡ zip xs ys
all_pairs xs ys place above = take_all place (zip xs ys) (omega (arith, length-zip xs ys))

-- what a test of UTF-8 answers
utf8_of : {X E : Type 0} (P : X → Type 0) (Q : Type 0) (B : E → Type 0) (answer : Result X E) → is_err answer ≡ false → MatchResult answer (λ x. P x × Q) B → Q
utf8_of P Q B (Ok x) good told = told.1
utf8_of P Q B (Err e) good told = absurd cc

pub whole_utf8 : {X E : Type 0} (P : X → Type 0) (B : E → Type 0) (path : List ℕ) (answer : Result X E) → is_err answer ≡ false → MatchResult answer (λ x. P x × IsUtf8 path) B → utf8_valid_len path ≡ length path
whole_utf8 P B path answer good told = utf8_valid_len-IsUtf8 path (utf8_of P (IsUtf8 path) B answer good told)
