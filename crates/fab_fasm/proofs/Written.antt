-- Numbers that are written are read.
use Rattle.std.proofs.Common.{◌≡◌, ℕ, zero, suc, ◌+◌, ◌*◌, ◌/◌, ◌%◌, ◌^◌, ◌<◌, Bool, true, eqb, List, [], ◌∷◌, length, filter, refl, ap, ◌∙◌, arith, lit<, div-add-mod', mod-lt, length-append, add-one}
use Rattle.std.specs.Prelude.{decimal}
use Rattle.std.specs.List.{list_all, list_any}
use Rattle.std.specs.Char.{digit_value, is_digit}
use Rattle.std.specs.Str.Parse.{AllDigits, digits_value}
use Rattle.std.proofs.lemmas.Bool.{lt-ltb, and_from, or_left}
use Rattle.std.proofs.lemmas.Fmt.{decimal_is_IsNumeral}
use Rattle.std.proofs.lemmas.Int.Digits.{digits_value_push, digits_push}
use Rattle.std.proofs.lemmas.Nat.{shr_below}
use Rattle.std.proofs.lemmas.Str.{digit_value_digit}
use Rattle.fab_fasm.specs.Numbers.{number_of, is_number, is_of_number, is_decimal}
use Rattle.fab_fasm.specs.Printing.{binary}

-- each digit passes a test that digits pass
pub digits_pass : (radix : ℕ) (test : ℕ → Bool) (digits : List ℕ) → ((byte : ℕ) → digit_value byte < radix → test byte ≡ true) → AllDigits radix digits → list_all test digits ≡ true
digits_pass radix test [] passes all = refl
digits_pass radix test (byte ∷ digits) passes all = and_from (test byte) (list_all test digits) (passes byte all.0) (digits_pass radix test digits passes all.1)

digits_kept : (radix : ℕ) (digits : List ℕ) → AllDigits radix digits → filter (λ byte. is_digit byte radix) digits ≡ digits
digits_kept radix [] all = refl
digits_kept radix (byte ∷ digits) all =
    let digit : is_digit byte radix ≡ true = lt-ltb (digit_value byte) radix all.0 in
    let rest = digits_kept radix digits all.1 in
    rw digit (ap (λ (l : List ℕ). byte ∷ l) rest)

-- what digits alone write
pub number_of_digits : (radix : ℕ) (digits : List ℕ) → AllDigits radix digits → number_of radix digits ≡ digits_value radix digits
number_of_digits radix digits all = ap (digits_value radix) (digits_kept radix digits all)

of_number : (radix byte : ℕ) → digit_value byte < radix → is_of_number radix byte ≡ true
of_number radix byte below = or_left (is_digit byte radix) (eqb byte 95) (lt-ltb (digit_value byte) radix below)

-- digits, of which there is one, are a number
pub digits_are_number : (radix : ℕ) (digits : List ℕ) → 0 < length digits → AllDigits radix digits → is_number radix digits ≡ true
digits_are_number radix [] some all = absurd (omega arith)
digits_are_number radix (byte ∷ digits) some all =
    and_from (list_any (λ b. is_digit b radix) (byte ∷ digits)) (list_all (is_of_number radix) (byte ∷ digits))
    (or_left (is_digit byte radix) (list_any (λ b. is_digit b radix) digits) (lt-ltb (digit_value byte) radix all.0))
    (digits_pass radix (is_of_number radix) (byte ∷ digits) (of_number radix) all)

-- and a decimal one
pub digits_are_decimal : (digits : List ℕ) → 0 < length digits → AllDigits 10 digits → is_decimal digits ≡ true
digits_are_decimal [] some all = absurd (omega arith)
digits_are_decimal (byte ∷ digits) some all =
    and_from (is_digit byte 10) (list_all (is_of_number 10) (byte ∷ digits)) (lt-ltb (digit_value byte) 10 all.0) (digits_pass 10 (is_of_number 10) (byte ∷ digits) (of_number 10) all)

-- ---- decimal digits

pub decimal_digits : (number : ℕ) → number < 2 ^ 64 → AllDigits 10 (decimal number)
decimal_digits number small = (decimal_is_IsNumeral number small).0.1

pub decimal_some : (number : ℕ) → number < 2 ^ 64 → 0 < length (decimal number)
decimal_some number small = (decimal_is_IsNumeral number small).0.0

pub decimal_number : (number : ℕ) → number < 2 ^ 64 → number_of 10 (decimal number) ≡ number
decimal_number number small = number_of_digits 10 (decimal number) (decimal_digits number small) ∙ (decimal_is_IsNumeral number small).1

-- ---- binary digits

bit_digit : (number : ℕ) → digit_value (48 + number % 2) ≡ number % 2
bit_digit number =
    let below : number % 2 < 2 = mod-lt number (lit< tt) in
    let is : digit_value (48 + number % 2) + 48 ≡ 48 + number % 2 = digit_value_digit (48 + number % 2) (omega arith, omega arith) in
    omega arith

pub binary_digits : (width number : ℕ) → AllDigits 2 (binary width number)
unfolding binary
binary_digits zero number = tt
binary_digits (suc width) number =
    let below : number % 2 < 2 = mod-lt number (lit< tt) in
    digits_push 2 (binary width (number / 2)) (48 + number % 2) (binary_digits width (number / 2)) (omega (arith, bit_digit number))

pub length-binary : (width number : ℕ) → length (binary width number) ≡ width
unfolding binary
length-binary zero number = refl
length-binary (suc width) number = simp length-append (omega (arith, length-binary width (number / 2)))

binary_value : (width number : ℕ) → number < 2 ^ width → digits_value 2 (binary width number) ≡ number
unfolding binary
binary_value zero number fits = omega arith
binary_value (suc width) number fits =
    let more : 2 ^ (width + 1) ≡ 2 ^ suc width = ap (λ n. 2 ^ n) (add-one width) in
    let half : number / 2 < 2 ^ width = shr_below number width 1 (omega arith) in
    digits_value_push 2 (binary width (number / 2)) (48 + number % 2)
    ∙ ap (λ n. n * 2 + digit_value (48 + number % 2)) (binary_value width (number / 2) half)
    ∙ ap (λ n. number / 2 * 2 + n) (bit_digit number)
    ∙ div-add-mod' number 2

pub binary_number : (width number : ℕ) → number < 2 ^ width → number_of 2 (binary width number) ≡ number
binary_number width number fits = number_of_digits 2 (binary width number) (binary_digits width number) ∙ binary_value width number fits
