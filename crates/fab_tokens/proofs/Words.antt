-- The tokens of words: each spelling of a keyword, a number or a constant is read as that.
use Rattle.std.proofs.Common.{◌≡◌, ◌≢◌, ℕ, ◌+◌, ◌*◌, ◌-◌, ◌/◌, ◌%◌, ◌^◌, ◌<◌, ◌≤◌, Bool, true, false, ◌==◌, ◌&&◌, ◌||◌, List, [], ◌∷◌, ◌++◌, length, map, reverse, decimal, get_or, refl, sym, ap, ◌∙◌, arith, rules, inl, inr, Option, Some, None, nat_le, if◌then◌else◌}
use Rattle.std.specs.List.{list_all}
use Rattle.std.specs.Option.{option_and_then}
use Rattle.std.proofs.lemmas.Bool.{false≢true, true≢false}
use Rattle.std.proofs.lemmas.Bool.Decides.{nat_tests, eqb_tells}
use Rattle.std.proofs.lemmas.Fmt.{decimal_digit, decimal_by_steps, decimal_nonempty, first_decimal}
use Rattle.std.proofs.lemmas.List.Folds.{list_all-append}
use Rattle.fab_tokens.specs.declared.token.Keyword.{Keyword}
use Rattle.fab_tokens.specs.declared.token.Keyword.TheVariants as keywords
use Rattle.fab_tokens.specs.declared.token.Token.TheVariants as tokens
use Rattle.fab_tokens.specs.Literals.{max_number, is_digit, is_letter, is_word_byte, with_digit, shifted, number_from, number_of}
use Rattle.fab_tokens.specs.Scanning.{word_token, number_token}
use Rattle.fab_tokens.specs.Tokens.{keyword_text, keyword_of, begins_with_digit}

-- both of two tests
pub both : (a b : Bool) → (a && b) ≡ true → (a ≡ true) × (b ≡ true)
both true b h = (refl, h)
both false b h = absurd (false≢true h)

-- none of two tests
pub neither : (a b : Bool) → (a || b) ≡ false → (a ≡ false) × (b ≡ false)
neither true b h = absurd (true≢false h)
neither false b h = (refl, h)

-- digits after digits
number_from-append : (value : ℕ) (a b : List ℕ) → number_from value (a ++ b) ≡ option_and_then (λ next. number_from next b) (number_from value a)
number_from-append value [] b = refl
number_from-append value (byte ∷ a) b =
    elim (with_digit value byte) as (λ o. option_and_then (λ next. number_from next (a ++ b)) o ≡ option_and_then (λ next. number_from next b) (option_and_then (λ next. number_from next a) o))
    [ None ↦ refl | Some next ↦ number_from-append next a b ]

digit_byte : (d : ℕ) → d < 10 → is_digit (48 + d) ≡ true
digit_byte d small =
    let low : nat_le 48 (48 + d) ≡ true = grind (arith, nat_tests) in
    let high : nat_le (48 + d) 57 ≡ true = grind (arith, nat_tests) in
    rw (low, high) refl

-- one digit more
last_digit : (value d : ℕ) → d < 10 → value * 10 + d ≤ max_number → with_digit value (48 + d) ≡ Some (value * 10 + d)
last_digit value d small fits =
    let back : 48 + d - 48 ≡ d = omega arith in
    let digit : is_digit (48 + d) ≡ true = digit_byte d small in
    let fit : nat_le (value * 10 + d) max_number ≡ true = grind (arith, nat_tests) in
    rw (back, digit, fit) refl

number_from-decimal : (n : ℕ) → n ≤ max_number → number_from 0 (decimal n) ≡ Some n
number_from-decimal n fits =
    decimal_by_steps (λ k ds. k ≤ max_number → number_from 0 ds ≡ Some k)
    (λ k small few.
    let same : 0 * 10 + k ≡ k = omega arith in
    let few_too : 0 * 10 + k ≤ max_number = rw same few in
    ap (option_and_then (λ next. number_from next [])) (last_digit 0 k small few_too) ∙ ap Some same)
    (λ k ds large so_far few.
    let same : k / 10 * 10 + k % 10 ≡ k = omega arith in
    let few_too : k / 10 * 10 + k % 10 ≤ max_number = rw same few in
    let front : k / 10 ≤ max_number = omega arith in
    let small : k % 10 < 10 = omega arith in
    number_from-append 0 ds ((48 + k % 10) ∷ [])
    ∙ ap (option_and_then (λ next. number_from next ((48 + k % 10) ∷ []))) (so_far front)
    ∙ ap (option_and_then (λ next. number_from next [])) (last_digit (k / 10) (k % 10) small few_too)
    ∙ ap Some same)
    n (omega (arith, fits)) fits

-- without a leading zero
number_of-plain : (ds : List ℕ) → 0 < length ds → (get_or ds 0 0 ≡ 48 → length ds ≡ 1) → number_of ds ≡ number_from 0 ds
number_of-plain [] some plain = absurd (omega arith)
number_of-plain (a ∷ []) some plain = refl
number_of-plain (a ∷ b ∷ ds) some plain =
    elim (eqb_tells a 48) [
      | inl zero ↦ (let one : length (a ∷ b ∷ ds) ≡ 1 = plain zero.1 in absurd (omega (arith, one)))
      | inr other ↦ rw other.0 refl
    ]

pub number_again : (n : ℕ) → n ≤ max_number → number_of (decimal n) ≡ Some n
number_again n fits =
    let small : n < 2 ^ 64 = omega (arith, fits) in
    number_of-plain (decimal n) (decimal_nonempty n small)
    (λ zero. elim (eqb_tells n 0) [
      | inl none ↦ ap (λ k. length (decimal k)) none.1 ∙ ap length (decimal_digit 0 (omega arith))
      | inr some ↦ (let above : 48 < get_or (decimal n) 0 0 = first_decimal n (let ne = some.1 in omega arith) small in absurd (omega (arith, above, zero)))
    ])
    ∙ number_from-decimal n fits

pub digits_again : (n : ℕ) → n < 2 ^ 64 → list_all is_digit (decimal n) ≡ true
digits_again n small =
    decimal_by_steps (λ k ds. list_all is_digit ds ≡ true)
    (λ k few. let digit : is_digit (48 + k) ≡ true = digit_byte k few in rw digit refl)
    (λ k ds large so_far.
    let digit : is_digit (48 + k % 10) ≡ true = digit_byte (k % 10) (omega arith) in
    list_all-append is_digit ds ((48 + k % 10) ∷ []) ∙ rw (so_far, digit) refl)
    n small

pub digit_in_word : (byte : ℕ) → is_digit byte ≡ true → is_word_byte byte ≡ true
digit_in_word byte digit =
    elim (is_letter byte) as (λ l. ((l || is_digit byte) || (byte == 95)) ≡ true) [ true ↦ refl | false ↦ rw digit refl ]

pub digits_in_word : (ds : List ℕ) → list_all is_digit ds ≡ true → list_all is_word_byte ds ≡ true
digits_in_word [] all = refl
digits_in_word (d ∷ ds) all =
    let parts = both (is_digit d) (list_all is_digit ds) all in
    let first : is_word_byte d ≡ true = digit_in_word d parts.0 in
    let more : list_all is_word_byte ds ≡ true = digits_in_word ds parts.1 in
    rw (first, more) refl

pub begins_again : (ds : List ℕ) → 0 < length ds → list_all is_digit ds ≡ true → begins_with_digit ds ≡ true
begins_again [] some all = absurd (omega arith)
begins_again (d ∷ ds) some all = (both (is_digit d) (list_all is_digit ds) all).0

-- ---- the tokens of words

pub number_told : (n : ℕ) → n ≤ max_number → word_token (decimal n) ≡ tokens.Number n
number_told n fits =
    let small : n < 2 ^ 64 = omega (arith, fits) in
    let digit : begins_with_digit (decimal n) ≡ true = begins_again (decimal n) (decimal_nonempty n small) (digits_again n small) in
    let number : number_of (decimal n) ≡ Some n = number_again n fits in
    rw (digit, number) refl

pub name_told : (name : List ℕ) → begins_with_digit name ≡ false → keyword_of name ≡ None → word_token name ≡ tokens.Identifier name
name_told name letter free = rw (letter, free) refl

pub keyword_told : (keyword : Keyword) → word_token (keyword_text keyword) ≡ tokens.Keyword keyword
unfolding keyword_of
keyword_told keywords.Module = refl
keyword_told keywords.Endmodule = refl
keyword_told keywords.Input = refl
keyword_told keywords.Output = refl
keyword_told keywords.Wire = refl
keyword_told keywords.Reg = refl
keyword_told keywords.Assign = refl
keyword_told keywords.Always = refl
keyword_told keywords.If = refl
keyword_told keywords.Posedge = refl

pub keyword_bytes : (keyword : Keyword) → (0 < length (keyword_text keyword)) × (list_all is_word_byte (keyword_text keyword) ≡ true)
keyword_bytes keywords.Module = (omega arith, refl)
keyword_bytes keywords.Endmodule = (omega arith, refl)
keyword_bytes keywords.Input = (omega arith, refl)
keyword_bytes keywords.Output = (omega arith, refl)
keyword_bytes keywords.Wire = (omega arith, refl)
keyword_bytes keywords.Reg = (omega arith, refl)
keyword_bytes keywords.Assign = (omega arith, refl)
keyword_bytes keywords.Always = (omega arith, refl)
keyword_bytes keywords.If = (omega arith, refl)
keyword_bytes keywords.Posedge = (omega arith, refl)
