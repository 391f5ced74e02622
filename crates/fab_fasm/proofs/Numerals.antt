-- One byte more of a number.
use Rattle.std.proofs.Common.{◌≡◌, ℕ, ◌+◌, ◌*◌, ◌^◌, ◌<◌, ◌≤◌, Bool, true, false, cond, Option, Some, None, List, [], ◌∷◌, ◌++◌, length, take, drop, get_or, filter, refl, sym, ap, ◌∙◌, inl, inr, arith, append-nil, lit≤, take-append-drop}
use Rattle.std.specs.Prelude.{option_and_then}
use Rattle.std.specs.Str.Parse.{digits_value, digits_value_after}
use Rattle.std.specs.Char.{digit_value, is_digit}
use Rattle.std.proofs.lemmas.Bool.{cases_lt, lt-ltb, le-ltb}
use Rattle.std.proofs.lemmas.List.Elements.{filter_more, filter-append}
use Rattle.std.proofs.lemmas.Int.Digits.{digits_value_push}
use Rattle.std.proofs.Math.Nat.{mul-le-mul_left}
use Rattle.fab_fasm.specs.declared.numbers.Base.{Base}
use Rattle.fab_fasm.specs.declared.numbers.Base.TheVariants as bases
use Rattle.fab_fasm.specs.Numbers.{next, number_of, radix, small}

-- a base has a digit
pub least_radix : (base : Base) → 1 ≤ radix base
least_radix bases.Binary = lit≤ tt
least_radix bases.Octal = lit≤ tt
least_radix bases.Decimal = lit≤ tt
least_radix bases.Hexadecimal = lit≤ tt

digit_more : (radix : ℕ) (digits : List ℕ) (byte : ℕ) (digit : Bool) → digits_value radix (digits ++ cond digit (byte ∷ []) []) ≡ cond digit (digits_value radix digits * radix + digit_value byte) (digits_value radix digits)
digit_more radix digits byte true = digits_value_push radix digits byte
digit_more radix digits byte false = ap (digits_value radix) (append-nil digits)

-- a number with the next byte of a text
pub number_more : (radix : ℕ) (text : List ℕ) (place : ℕ) → place < length text
    → number_of radix (take (place + 1) text) ≡ next radix (number_of radix (take place text)) (get_or text place 0)
number_more radix text place below =
    ap (digits_value radix) (filter_more (λ byte. is_digit byte radix) text place 0 below)
    ∙ digit_more radix (filter (λ byte. is_digit byte radix) (take place text)) (get_or text place 0) (is_digit (get_or text place 0) radix)

pub small_fits : (number : ℕ) → number < 2 ^ 128 → small number ≡ Some number
small_fits number below = rw (lt-ltb number (2 ^ 128) below) refl

pub small_large : (number : ℕ) → 2 ^ 128 ≤ number → small number ≡ None
small_large number above = rw (le-ltb number (2 ^ 128) above) refl

-- one digit more of a number that may not fit
small_digit : (radix number digit : ℕ) → 1 ≤ radix → option_and_then (λ n. small (n * radix + digit)) (small number) ≡ small (number * radix + digit)
small_digit radix number digit some = elim (cases_lt number (2 ^ 128)) [
  | inl below ↦ ap (option_and_then (λ n. small (n * radix + digit))) (small_fits number below)
  | inr above ↦
      let more : number * 1 ≤ number * radix = mul-le-mul_left number some in
      ap (option_and_then (λ n. small (n * radix + digit))) (small_large number above) ∙ sym (small_large (number * radix + digit) (omega arith))
]

small_byte : (radix number byte : ℕ) (digit : Bool) → 1 ≤ radix
    → cond digit (option_and_then (λ n. small (n * radix + digit_value byte)) (small number)) (small number) ≡ small (cond digit (number * radix + digit_value byte) number)
small_byte radix number byte true some = small_digit radix number (digit_value byte) some
small_byte radix number byte false some = refl

-- one byte more of a number that may not fit
pub small_next : (radix : ℕ) (text : List ℕ) (place : ℕ) (number : Option ℕ) → 1 ≤ radix → place < length text → number ≡ small (number_of radix (take place text))
    → cond (is_digit (get_or text place 0) radix) (option_and_then (λ n. small (n * radix + digit_value (get_or text place 0))) number) number ≡ small (number_of radix (take (place + 1) text))
small_next radix text place number some below so_far =
    ap (λ (o : Option ℕ). cond (is_digit (get_or text place 0) radix) (option_and_then (λ n. small (n * radix + digit_value (get_or text place 0))) o) o) so_far
    ∙ small_byte radix (number_of radix (take place text)) (get_or text place 0) (is_digit (get_or text place 0) radix) some
    ∙ ap small (sym (number_more radix text place below))

-- ---- a number grows with its digits

digits_after-append : (radix number : ℕ) (front rest : List ℕ) → digits_value_after radix number (front ++ rest) ≡ digits_value_after radix (digits_value_after radix number front) rest
digits_after-append radix number [] rest = refl
digits_after-append radix number (byte ∷ front) rest = digits_after-append radix (number * radix + digit_value byte) front rest

digits_after-ge : (radix number : ℕ) (digits : List ℕ) → 1 ≤ radix → number ≤ digits_value_after radix number digits
digits_after-ge radix number [] some = omega arith
digits_after-ge radix number (byte ∷ digits) some =
    let more : number * 1 ≤ number * radix = mul-le-mul_left number some in
    let rest = digits_after-ge radix (number * radix + digit_value byte) digits some in
    omega arith

pub number_grows : (radix : ℕ) (text : List ℕ) (place : ℕ) → 1 ≤ radix → number_of radix (take place text) ≤ number_of radix text
number_grows radix text place some =
    let cut : filter (λ byte. is_digit byte radix) text ≡ filter (λ byte. is_digit byte radix) (take place text) ++ filter (λ byte. is_digit byte radix) (drop place text) =
    ap (filter (λ byte. is_digit byte radix)) (sym (take-append-drop place text)) ∙ filter-append (λ byte. is_digit byte radix) (take place text) (drop place text) in
    let whole : number_of radix text ≡ digits_value_after radix (number_of radix (take place text)) (filter (λ byte. is_digit byte radix) (drop place text)) =
    ap (digits_value radix) cut ∙ digits_after-append radix 0 (filter (λ byte. is_digit byte radix) (take place text)) (filter (λ byte. is_digit byte radix) (drop place text)) in
    let more = digits_after-ge radix (number_of radix (take place text)) (filter (λ byte. is_digit byte radix) (drop place text)) some in
    omega arith

-- ---- a number that does not fit 128 bits

pub small_is_none : (number : ℕ) → None ≡ small number → 2 ^ 128 ≤ number
small_is_none number none = elim (cases_lt number (2 ^ 128)) [
  | inl below ↦ let some = small_fits number below in absurd cc
  | inr above ↦ above
]
