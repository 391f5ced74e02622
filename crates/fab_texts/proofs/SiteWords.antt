-- Sites are words.
use Rattle.std.proofs.Common.{◌≡◌, ℕ, ◌+◌, ◌-◌, ◌/◌, ◌%◌, ◌<◌, true, List, [], ◌∷◌, ◌++◌, length, get_or, refl, ap, ◌∙◌, arith, inl, inr, decimal, append_assoc, length-append}
use Rattle.std.specs.Prelude.{not, ◌==◌}
use Rattle.std.specs.List.{list_all}
use Rattle.std.proofs.lemmas.Bool.{cases_lt}
use Rattle.std.proofs.lemmas.Bool.Decides.{nat_tests}
use Rattle.std.proofs.lemmas.List.{get_or-append-add}
use Rattle.std.proofs.lemmas.Fmt.{decimal_digit, decimal_step}
use Rattle.fab_fabric.specs.declared.wire.Site.{Site}
use Rattle.fab_texts.specs.Printed.{is_word_byte, ends_line, is_last_word}
use Rattle.fab_fabric.specs.Names.{site_text}
use Rattle.fab_texts.specs.Places.{IsWritable}
use Rattle.fab_texts.proofs.PrintedRows.{all_append}

digit_byte : (n : ℕ) → n < 10 → is_word_byte (48 + n) ≡ true
digit_byte n h = grind (arith, nat_tests)

letter_byte : (n : ℕ) → n < 26 → is_word_byte (65 + n) ≡ true
letter_byte n h = grind (arith, nat_tests)

number_bytes : (n : ℕ) → n < 100 → list_all is_word_byte (decimal n) ≡ true
number_bytes n small = elim (cases_lt n 10) [
  | inl lt ↦ rw (decimal_digit n lt, digit_byte n lt) refl
  | inr le ↦
      let high : n / 10 < 10 = omega arith in
      let low : n % 10 < 10 = omega arith in
      rw (decimal_step n le (omega arith), decimal_digit (n / 10) high, digit_byte (n / 10) high, digit_byte (n % 10) low) refl
]

not_return : (n : ℕ) → n < 26 → not (65 + n == 13) ≡ true
not_return n h = grind (arith, nat_tests)

-- a site can stand at the end of a line
pub site_last_word : (s : Site) → IsWritable s → is_last_word (site_text s) ≡ true
site_last_word s fits =
    let front : List ℕ = 88 ∷ (decimal s.x ++ 89 ∷ (decimal s.y ++ 46 ∷ [])) in
    let a : site_text s ≡ front ++ (65 + s.bel) ∷ [] = search (append_assoc) in
    let y : list_all is_word_byte (decimal s.y ++ 46 ∷ []) ≡ true = all_append is_word_byte (decimal s.y) (46 ∷ []) (number_bytes s.y (omega (arith, fits.y))) refl in
    let x : list_all is_word_byte (decimal s.x ++ 89 ∷ (decimal s.y ++ 46 ∷ [])) ≡ true = all_append is_word_byte (decimal s.x) (89 ∷ (decimal s.y ++ 46 ∷ [])) (number_bytes s.x (omega (arith, fits.x))) y in
    let last : list_all is_word_byte ((65 + s.bel) ∷ []) ≡ true = rw (letter_byte s.bel fits.bel) refl in
    let bytes : list_all is_word_byte (front ++ (65 + s.bel) ∷ []) ≡ true = all_append is_word_byte front ((65 + s.bel) ∷ []) x last in
    let filled : not (length (front ++ (65 + s.bel) ∷ []) == 0) ≡ true = grind (arith, nat_tests) in
    let whole = length-append front ((65 + s.bel) ∷ []) in
    let place : length (front ++ (65 + s.bel) ∷ []) - 1 ≡ length front + 0 = omega (arith, whole) in
    let at : get_or (front ++ (65 + s.bel) ∷ []) (length (front ++ (65 + s.bel) ∷ []) - 1) 0 ≡ 65 + s.bel = ap (λ n. get_or (front ++ (65 + s.bel) ∷ []) n 0) place ∙ get_or-append-add front ((65 + s.bel) ∷ []) 0 0 in
    let ends : ends_line (front ++ (65 + s.bel) ∷ []) ≡ true = ap (λ b. not (b == 13)) at ∙ not_return s.bel fits.bel in
    ap is_last_word a ∙ rw (filled, bytes, ends) refl
