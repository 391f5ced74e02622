-- Cells that are written are read.
use Rattle.std.proofs.Common.{◌≡◌, ℕ, zero, suc, ◌+◌, ◌/◌, ◌%◌, ◌^◌, ◌<◌, ◌≤◌, Bool, true, ◌||◌, List, [], ◌∷◌, ◌++◌, length, get_or, Some, refl, ap, ◌∙◌, inl, inr, arith, decimal, length-append}
use Rattle.std.specs.Prelude.{not, ◌==◌, nat_le}
use Rattle.std.specs.List.{list_all}
use Rattle.std.specs.Char.{digit_value}
use Rattle.std.specs.Str.Parse.{AllDigits}
use Rattle.std.proofs.lemmas.Bool.{cases_lt, le-leb, and_from}
use Rattle.std.proofs.lemmas.Bool.Decides.{nat_tests}
use Rattle.std.proofs.lemmas.List.{get_or_append_left}
use Rattle.std.proofs.lemmas.Fmt.{decimal_digit, decimal_step, decimal_is_IsNumeral}
use Rattle.std.proofs.lemmas.Str.Parse.{digit_from_value}
use Rattle.fab_lines.specs.Numbers.{is_digit, is_number, number_of}
use Rattle.fab_impl.specs.Names.{cell_text, cell_of, most_cell}

-- what holds of each digit holds of all digits
digits_pass : (test : ℕ → Bool) (digits : List ℕ) → ((byte : ℕ) → digit_value byte < 10 → test byte ≡ true) → AllDigits 10 digits → list_all test digits ≡ true
digits_pass test [] passes all = refl
digits_pass test (byte ∷ digits) passes all = and_from (test byte) (list_all test digits) (passes byte all.0) (digits_pass test digits passes all.1)

digit_byte : (byte : ℕ) → digit_value byte < 10 → is_digit byte ≡ true
digit_byte byte below = let range = digit_from_value byte below in grind (arith, nat_tests)

small : (cell : ℕ) → cell ≤ most_cell → cell < 2 ^ 64
small cell few = omega arith

-- the first digit of a number above 0 is not 0
first_digit : (bound number : ℕ) → number ≤ bound → 0 < number → number < 2 ^ 64 → (0 < length (decimal number)) × (not (get_or (decimal number) 0 0 == 48) ≡ true)
first_digit zero number below some few = absurd (omega (arith, below, some))
first_digit (suc bound) number below some few = elim (cases_lt number 10) [
  | inl lt ↦
      let front : decimal number ≡ (48 + number) ∷ [] = decimal_digit number lt in
      let test : not (48 + number == 48) ≡ true = grind (arith, nat_tests) in
      (rw front (omega arith), rw front test)
  | inr le ↦
      let rest : number / 10 ≤ bound = omega arith in
      let before = first_digit bound (number / 10) rest (omega arith) (omega arith) in
      let step : decimal number ≡ decimal (number / 10) ++ (48 + number % 10) ∷ [] = decimal_step number le few in
      let whole = length-append (decimal (number / 10)) ((48 + number % 10) ∷ []) in (
        rw step (omega (arith, whole)),
        ap (λ (digits : List ℕ). not (get_or digits 0 0 == 48)) step ∙ ap (λ (byte : ℕ). not (byte == 48)) (get_or_append_left (decimal (number / 10)) ((48 + number % 10) ∷ []) 0 0 before.0) ∙ before.1,
      )
]

no_leading_zero : (number : ℕ) → number < 2 ^ 64 → (not (get_or (decimal number) 0 0 == 48) || (length (decimal number) == 1)) ≡ true
no_leading_zero number few = elim (cases_lt 0 number) [
  | inl some ↦ rw (first_digit number number (omega arith) some few).1 refl
  | inr none ↦
      let same : number ≡ 0 = omega (arith, none) in
      ap (λ (n : ℕ). not (get_or (decimal n) 0 0 == 48) || (length (decimal n) == 1)) same ∙ rw (decimal_digit 0 (omega arith)) refl
]

decimal_number : (number : ℕ) → number < 2 ^ 64 → is_number (decimal number) ≡ true
decimal_number number few =
    let numeral = decimal_is_IsNumeral number few in
    let filled : not (length (decimal number) == 0) ≡ true = let some : 0 < length (decimal number) = numeral.0.0 in grind (arith, nat_tests) in
    and_from _ _ (and_from _ _ filled (digits_pass is_digit (decimal number) digit_byte numeral.0.1)) (no_leading_zero number few)

pub cell_again : (cell : ℕ) → cell ≤ most_cell → cell_of (cell_text cell) ≡ Some cell
cell_again cell few =
    let below = small cell few in
    let number = decimal_number cell below in
    let value : number_of (decimal cell) ≡ cell = (decimal_is_IsNumeral cell below).1 in
    let fits : nat_le cell most_cell ≡ true = le-leb cell most_cell few in
    rw (number, value, fits) refl
