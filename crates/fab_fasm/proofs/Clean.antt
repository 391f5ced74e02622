-- The bytes of a feature's line.
use Rattle.std.proofs.Common.{◌≡◌, ℕ, ◌<◌, ◌≤◌, ◌^◌, Bool, true, not, ◌&&◌, eqb, List, [], ◌∷◌, ◌++◌, refl, ap, ◌∙◌, arith}
use Rattle.std.specs.Prelude.{decimal}
use Rattle.std.specs.List.{list_all}
use Rattle.std.specs.Char.{digit_value}
use Rattle.std.proofs.lemmas.Bool.{and_from}
use Rattle.std.proofs.lemmas.Bool.Decides.{nat_tests}
use Rattle.std.proofs.lemmas.List.Folds.{list_all-append}
use Rattle.std.proofs.lemmas.Str.Parse.{digit_from_value}
use Rattle.fab_fasm.specs.declared.feature.Feature.{Feature}
use Rattle.fab_fasm.specs.Parts.{is_of_feature, width_of}
use Rattle.fab_fasm.specs.Printing.{address_text, value_text, feature_text, binary, HasSpelling}
use Rattle.fab_fasm.proofs.Cutting.{list_all_weaker}
use Rattle.fab_fasm.proofs.FeatureWords.{feature_bytes, feature_no_end}
use Rattle.fab_fasm.proofs.Texts.{Left, One, Two, address_cases, LeftOut, Spelt, value_cases}
use Rattle.fab_fasm.proofs.Written.{digits_pass, decimal_digits, binary_digits}

-- a byte that ends no line
abbrev pub is_clean : ℕ → Bool
is_clean byte = not (eqb byte 10) && not (eqb byte 13)

digit_clean : (byte : ℕ) → digit_value byte < 10 → is_clean byte ≡ true
digit_clean byte below =
    let range = digit_from_value byte below in
    let low : 48 ≤ byte = range.0 in
    grind (arith, nat_tests)

decimal_clean : (number : ℕ) → number < 2 ^ 64 → list_all is_clean (decimal number) ≡ true
decimal_clean number small = digits_pass 10 is_clean (decimal number) digit_clean (decimal_digits number small)

binary_clean : (width number : ℕ) → list_all is_clean (binary width number) ≡ true
binary_clean width number = digits_pass 2 is_clean (binary width number) (λ byte below. digit_clean byte (omega arith)) (binary_digits width number)

both_clean : (front rest : List ℕ) → list_all is_clean front ≡ true → list_all is_clean rest ≡ true → list_all is_clean (front ++ rest) ≡ true
both_clean front rest first second = list_all-append is_clean front rest ∙ and_from (list_all is_clean front) (list_all is_clean rest) first second

address_clean : (high low : ℕ) → high < 2 ^ 64 → low < 2 ^ 64 → list_all is_clean (address_text high low) ≡ true
address_clean high low small_high small_low = elim (address_cases high low) [
  | Left text zero_high zero_low ↦ ap (list_all is_clean) text
  | One text same ↦ ap (list_all is_clean) text ∙ both_clean (decimal high) (93 ∷ []) (decimal_clean high small_high) refl
  | Two text ↦ ap (list_all is_clean) text
      ∙ both_clean (decimal high ++ 58 ∷ decimal low) (93 ∷ []) (both_clean (decimal high) (58 ∷ decimal low) (decimal_clean high small_high) (decimal_clean low small_low)) refl
]

value_clean : (width value : ℕ) → width < 2 ^ 64 → list_all is_clean (value_text width value) ≡ true
value_clean width value small = elim (value_cases width value) [
  | LeftOut text one_bit one ↦ ap (list_all is_clean) text
  | Spelt text ↦ ap (list_all is_clean) text ∙ both_clean (decimal width) (39 ∷ 98 ∷ binary width value) (decimal_clean width small) (binary_clean width value)
]

pub feature_clean : (feature : Feature) → HasSpelling feature → list_all is_clean (feature_text feature) ≡ true
feature_clean feature has =
    let bounded = has.bounded in
    let ordered = has.ordered in
    both_clean (feature.name ++ address_text feature.high feature.low) (value_text (width_of feature.high feature.low) feature.value)
    (both_clean feature.name (address_text feature.high feature.low)
    (list_all_weaker is_of_feature is_clean feature.name feature_no_end (feature_bytes feature.name has.named))
    (address_clean feature.high feature.low (omega arith) (omega arith)))
    (value_clean (width_of feature.high feature.low) feature.value (omega arith))
