-- The lead of one number over another, digit by digit.
use Rattle.std.proofs.Common.{◌≡◌, ℕ, ◌+◌, ◌-◌, ◌*◌, ◌<◌, ◌≤◌, true, List, length, take, get_or, min, sym, ap, ◌∙◌, arith, zero, suc, inl, inr}
use Rattle.std.specs.Prelude.{nat_le}
use Rattle.std.proofs.lemmas.Bool.{cases_Bool}
use Rattle.std.specs.List.{list_all}
use Rattle.std.specs.Char.{digit_value}
use Rattle.std.proofs.lemmas.Str.{digit_value_digit}
use Rattle.std.proofs.lemmas.List.Sums.{AllPass-from_list_all}
use Rattle.std.proofs.lemmas.Int.Digits.{digits_value_more}
use Rattle.std.proofs.lemmas.Bool.Decides.{nat_tests}
use Rattle.fab_lines.specs.Numbers.{capped, is_digit, number_of}

-- one digit more of both
pub lead_more : (factor front back gained lost : ℕ) → factor ≤ 31 → gained ≤ 9 → lost ≤ 9
    → min (10 * min (factor * front + 31 - back) 32 + factor * gained + 31 - (310 + lost)) 32 ≡ min (factor * (front * 10 + gained) + 31 - (back * 10 + lost)) 32
lead_more factor front back gained lost small first second =
    let most : factor * gained ≤ 31 * 9 = grind arith in
    omega arith

pub product_small : (factor digit : ℕ) → factor ≤ 31 → digit ≤ 9 → factor * digit ≤ 279
product_small factor digit small below = grind arith

value_of_digit : (byte : ℕ) → is_digit byte ≡ true → digit_value byte ≡ byte - 48
value_of_digit byte is =
    let range : (48 ≤ byte) × (byte ≤ 57) = grind (arith, nat_tests) in
    omega (arith, digit_value_digit byte range)

-- one digit more of a number with zeros in front
pub digit_more : (digits : List ℕ) (width place value : ℕ) → list_all is_digit digits ≡ true → length digits ≤ width → place < width → width - length digits ≤ place
    → value ≡ get_or digits (place - (width - length digits)) 0 - 48
    → number_of (take (place + 1 - (width - length digits)) digits) ≡ number_of (take (place - (width - length digits)) digits) * 10 + value
digit_more digits width place value all wide within past is =
    let at = place - (width - length digits) in
    let below : at < length digits = omega arith in
    let next : place + 1 - (width - length digits) ≡ at + 1 = omega arith in
    ap (λ (n : ℕ). number_of (take n digits)) next
    ∙ digits_value_more 10 digits at below
    ∙ ap (λ (d : ℕ). number_of (take at digits) * 10 + d) (value_of_digit (get_or digits at 0) (AllPass-from_list_all is_digit digits all at 0 below) ∙ sym is)

capped_small : (factor count : ℕ) → count ≤ 18446744073709551615 → capped (factor * capped count) ≡ capped (factor * count)
capped_small factor count small =
    let same : capped count ≡ count = omega arith in
    ap (λ (n : ℕ). capped (factor * n)) same

more_than : (factor count : ℕ) → 18446744073709551615 ≤ count → 18446744073709551615 ≤ suc factor * count
more_than factor count large = grind arith

capped_large : (factor count : ℕ) → 18446744073709551615 ≤ count → capped (suc factor * capped count) ≡ capped (suc factor * count)
capped_large factor count large =
    let one = more_than factor count large in
    let other = more_than factor (capped count) (omega arith) in
    omega (arith, one, other)

zero_times : (n : ℕ) → 0 * n ≡ 0
zero_times n = omega arith

-- the product of a number that is capped
pub capped_product : (factor count : ℕ) → capped (factor * capped count) ≡ capped (factor * count)
capped_product zero count = ap capped (zero_times (capped count) ∙ sym (zero_times count))
capped_product (suc factor) count =
    elim (cases_Bool (nat_le count 18446744073709551615)) [
      | inl small ↦ capped_small (suc factor) count (grind (arith, nat_tests))
      | inr large ↦ capped_large factor count (grind (arith, nat_tests))
    ]
