-- One digit more.
use Rattle.std.proofs.Common.{◌≡◌, ℕ, ◌+◌, ◌-◌, ◌*◌, ◌<◌, ◌≤◌, Bool, true, List, [], ◌∷◌, ◌++◌, length, take, get_or, min, refl, sym, ap, ◌∙◌, arith}
use Rattle.std.specs.List.{list_all}
use Rattle.std.specs.Char.{digit_value}
use Rattle.std.specs.Str.Parse.{digits_value}
use Rattle.std.proofs.lemmas.Str.{digit_value_digit}
use Rattle.std.proofs.lemmas.List.{take_more}
use Rattle.std.proofs.lemmas.List.Sums.{AllPass-from_list_all}
use Rattle.std.proofs.lemmas.Int.Digits.{digits_value_push}
use Rattle.std.proofs.lemmas.Bool.Decides.{nat_tests}
use Rattle.fab_lines.specs.Numbers.{is_digit, number_of, capped}

-- a bound that is kept at each step is kept of the whole
bounded : (value digit most : ℕ) → min (min (min value most * 10) most + digit) most ≡ min (value * 10 + digit) most
bounded value digit most = omega arith

value_of_digit : (byte : ℕ) → is_digit byte ≡ true → digit_value byte ≡ byte - 48
value_of_digit byte is =
    let range : (48 ≤ byte) × (byte ≤ 57) = grind (arith, nat_tests) in
    omega (arith, digit_value_digit byte range)

-- the value of one digit more
pub capped_more : (digits : List ℕ) (place value : ℕ) → list_all is_digit digits ≡ true → place < length digits → value ≡ capped (number_of (take place digits))
    → capped (capped (value * 10) + (get_or digits place 0 - 48)) ≡ capped (number_of (take (place + 1) digits))
capped_more digits place value all below so_far =
    let digit = value_of_digit (get_or digits place 0) (AllPass-from_list_all is_digit digits all place 0 below) in
    let more : number_of (take (place + 1) digits) ≡ number_of (take place digits) * 10 + (get_or digits place 0 - 48) =
    ap number_of (take_more digits place 0 below) ∙ digits_value_push 10 (take place digits) (get_or digits place 0) ∙ ap (λ d. number_of (take place digits) * 10 + d) digit in
    ap (λ v. capped (capped (v * 10) + (get_or digits place 0 - 48))) so_far
    ∙ bounded (number_of (take place digits)) (get_or digits place 0 - 48) _
    ∙ sym (ap capped more)
