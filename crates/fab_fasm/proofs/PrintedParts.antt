-- A line that is printed is made of parts.
use Rattle.std.proofs.Common.{◌≡◌, ℕ, ◌<◌, ◌≤◌, ◌^◌, List, [], ◌∷◌, ◌++◌, length, refl, sym, ap, subst, ◌∙◌, arith, append_assoc, append-nil, lit<, lt_trans, lt-ltb}
use Rattle.std.specs.Prelude.{decimal}
use Rattle.std.specs.Char.{digit_value, is_digit}
use Rattle.fab_fasm.specs.declared.feature.Feature.{Feature}
use Rattle.fab_fasm.specs.declared.numbers.Base.TheVariants as bases
use Rattle.fab_fasm.specs.Numbers.{number_of}
use Rattle.fab_fasm.specs.Parts.{width_of}
use Rattle.fab_fasm.specs.Printing.{address_text, value_text, feature_text, binary, HasSpelling}
use Rattle.fab_fasm.specs.Spelled.{IsBitNumber, IsAddress, no_address, one_bit, bits, IsLiteral, based, IsValue, no_value, value_is, no_comment, bare, FeatureParts, line_text, Give, Says, says}
use Rattle.fab_fasm.proofs.Texts.{Left, One, Two, address_cases, LeftOut, Spelt, value_cases}
use Rattle.fab_fasm.proofs.Written.{digits_pass, decimal_digits, decimal_some, decimal_number, digits_are_decimal, digits_are_number, binary_digits, binary_number, length-binary}

small_64 : (number : ℕ) → number < 2 ^ 32 → number < 2 ^ 64
small_64 number below = lt_trans below (lit< tt)

bit_number : (number : ℕ) → number < 2 ^ 32 → IsBitNumber (decimal number) number
bit_number number small =
    let large = small_64 number small in
    let some = decimal_some number large in
    record {
      some = omega (arith, some);
      all = digits_pass 10 (λ byte. is_digit byte 10) (decimal number) (λ byte below. lt-ltb (digit_value byte) 10 below) (decimal_digits number large);
      is = sym (decimal_number number large);
      small = small;
    }

address_parts : (high low : ℕ) → low ≤ high → high < 2 ^ 32 → IsAddress (address_text high low) high low
address_parts high low ordered small = elim (address_cases high low) [
  | Left text zero_high zero_low ↦
      subst (λ (t : List ℕ). IsAddress t high low) (sym text) (subst (λ (n : ℕ). IsAddress [] n low) (sym zero_high) (subst (λ (n : ℕ). IsAddress [] 0 n) (sym zero_low) no_address))
  | One text same ↦ subst (λ (t : List ℕ). IsAddress t high low) (sym text) (subst (λ (n : ℕ). IsAddress (91 ∷ (decimal high ++ 93 ∷ [])) high n) same (one_bit (bit_number high small)))
  | Two text ↦ subst (λ (t : List ℕ). IsAddress t high low) (sym text) (bits (bit_number high small) (bit_number low (omega (arith, ordered, small))) ordered)
]

-- binary digits behind their width
literal_parts : (width value : ℕ) → 1 ≤ width → width ≤ 128 → value < 2 ^ width → IsLiteral (decimal width ++ 39 ∷ 98 ∷ binary width value) value
literal_parts width value some narrow below =
    let small : width < 2 ^ 64 = omega arith in
    let same : number_of 10 (decimal width) ≡ width = decimal_number width small in
    let is : number_of 2 (binary width value) ≡ value = binary_number width value below in
    let filled : 0 < length (binary width value) = omega (arith, length-binary width value) in
    let fits : number_of 2 (binary width value) < 2 ^ number_of 10 (decimal width) =
    subst (λ (n : ℕ). n < 2 ^ number_of 10 (decimal width)) (sym is) (subst (λ (n : ℕ). value < 2 ^ n) (sym same) below) in
    subst (λ (n : ℕ). IsLiteral (decimal width ++ 39 ∷ 98 ∷ binary width value) n) is
    (based (decimal width) (binary width value) 98 {base = bases.Binary} (digits_are_decimal (decimal width) (decimal_some width small) (decimal_digits width small))
    (omega (arith, same, some)) (omega (arith, same, narrow)) refl (digits_are_number 2 (binary width value) filled (binary_digits width value)) fits)

value_parts : (width value : ℕ) → 1 ≤ width → width ≤ 128 → value < 2 ^ width → IsValue width (value_text width value) value
value_parts width value some narrow below = elim (value_cases width value) [
  | LeftOut text single one ↦ subst (λ (t : List ℕ). IsValue width t value) (sym text) (subst (λ (n : ℕ). IsValue width [] n) (sym one) no_value)
  | Spelt text ↦ subst (λ (t : List ℕ). IsValue width t value) (sym text) (value_is (32 ∷ []) (32 ∷ []) refl refl (literal_parts width value some narrow below) below)
]

pub feature_says : (number : ℕ) (feature : Feature) → HasSpelling feature → Says number (feature_text feature) (record feature { line = number } ∷ [])
feature_says number feature has =
    let width = width_of feature.high feature.low in
    let parts : FeatureParts = record { blanks = []; name = feature.name; address = address_text feature.high feature.low; value = value_text width feature.value; tail = [] } in
    let said : Feature = record feature { line = number } in
    let give : Give parts said = record {
      blanks = refl;
      name_is = refl;
      names = has.named;
      address = address_parts feature.high feature.low has.ordered has.bounded;
      value = value_parts width feature.value (omega arith) has.narrow has.fitting;
      tail = bare [] {last = []} refl no_comment;
    } in
    let whole : feature_text feature ≡ line_text parts =
    append_assoc feature.name (address_text feature.high feature.low) (value_text width feature.value)
    ∙ ap (λ (t : List ℕ). feature.name ++ (address_text feature.high feature.low ++ t)) (sym (append-nil (value_text width feature.value))) in
    subst (λ (t : List ℕ). Says number t (said ∷ [])) (sym whole) (says give refl)
