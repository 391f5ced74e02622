-- What `parse` of std reads of decimal digits.
use Rattle.std.proofs.Common.{◌≡◌, ◌<◌, ◌≤◌, ◌^◌, ℕ, Bool, true, false, List, [], ◌∷◌, Some, None, Result, Ok, Err, nat_le, if◌then◌else◌, refl, sym, ap, ◌∙◌, subst, arith, rules}
use Rattle.std.specs.List.{list_all}
use Rattle.std.specs.Result.{OkIff, result_ok}
use Rattle.std.specs.Str.Parse.{AllDigits, IsNumeral, ParsesUnsigned, digits_value, without_leading_plus}
use Rattle.std.proofs.lemmas.Bool.{le-leb}
use Rattle.std.proofs.lemmas.Bool.Decides.{nat_tests}
use Rattle.std.proofs.lemmas.Str.{digit_value_digit}
use Rattle.std.proofs.lemmas.Str.Parse.{without_leading_plus_none}
use Rattle.fab_lines.specs.Numbers.{is_digit, number_of}
use Rattle.fab_words.specs.Numbers.{is_decimal, number_within}

range : (byte : ℕ) → is_digit byte ≡ true → (48 ≤ byte) × (byte ≤ 57)
range byte is = grind (arith, nat_tests)

all_digits : (digits : List ℕ) → list_all is_digit digits ≡ true → AllDigits 10 digits
all_digits [] all = tt
all_digits (digit ∷ digits) all =
    let first : is_digit digit ≡ true = search rules in
    let rest : list_all is_digit digits ≡ true = search rules in
    (omega (arith, range digit first, digit_value_digit digit (range digit first)), all_digits digits rest)

-- digits without a sign are what is read
plain : (word : List ℕ) → is_decimal word ≡ true → IsNumeral 10 word × (without_leading_plus word ≡ word)
plain [] is = absurd cc
plain (digit ∷ digits) is =
    let all : list_all is_digit (digit ∷ digits) ≡ true = search rules in
    let first : is_digit digit ≡ true = search rules in
    ((omega arith, all_digits (digit ∷ digits) all), without_leading_plus_none (digit ∷ digits) (λ plus. omega (arith, range digit first, plus)))

read : {E : Type 0} (word : List ℕ) (found : Result ℕ E) → OkIff found (IsNumeral 10 word × (digits_value 10 word < 2 ^ 64)) (digits_value 10 word) → IsNumeral 10 word
    → result_ok found ≡ (if nat_le (number_of word) 18446744073709551615 then Some (number_of word) else None)
read word (Ok number) says numeral =
    let few : digits_value 10 word < 18446744073709551616 = says.0.1 in
    let fits : nat_le (number_of word) 18446744073709551615 ≡ true = le-leb _ _ (omega (arith, few)) in
    rw fits (ap (λ v. Some v) says.1)
read word (Err error) says numeral = go (nat_le (number_of word) 18446744073709551615) refl
  where
    go : (fits : Bool) → nat_le (number_of word) 18446744073709551615 ≡ fits → None ≡ (if fits then Some (number_of word) else None)
    go false _ = refl
    go true is =
        let few : digits_value 10 word < 18446744073709551616 = grind (arith, nat_tests) in
        absurd (says (numeral, few))

-- of one to twenty digits `parse` reads their number, unless it is too great
pub decimal_is : {E : Type 0} (word : List ℕ) (found : Result ℕ E) → is_decimal word ≡ true → ParsesUnsigned 64 10 word found → result_ok found ≡ number_within 0 18446744073709551615 word
decimal_is word found is says =
    let digits = plain word is in
    let given = subst (λ read. OkIff found (IsNumeral 10 read × (digits_value 10 read < 2 ^ 64)) (digits_value 10 read)) digits.1 says in
    let least : nat_le 0 (number_of word) ≡ true = le-leb _ _ (omega arith) in
    let whole : number_within 0 18446744073709551615 word ≡ (if nat_le (number_of word) 18446744073709551615 then Some (number_of word) else None) = rw (is, least) refl in
    read word found given digits.0 ∙ sym whole
