-- Numbers as texts and back.
use Rattle.std.proofs.Common.{◌≡◌, ◌⊎◌, length-take, ℕ, zero, suc, ◌+◌, ◌-◌, ◌*◌, ◌/◌, ◌%◌, ◌<◌, ◌≤◌, ◌==◌, ◌&&◌, ◌||◌, Bool, true, false, List, [], ◌∷◌, ◌++◌, map, take, length, get_or, not, refl, sym, ap, ◌∙◌, arith, inl, inr}
use Rattle.std.specs.Prelude.{slice_index}
use Rattle.std.specs.List.{list_all}
use Rattle.std.specs.Char.{digit_value}
use Rattle.std.specs.Int.Digits.{digits_of, number_from_digits, AllBelowBase}
use Rattle.std.proofs.lemmas.Str.{digit_value_digit}
use Rattle.std.proofs.lemmas.List.{take_all, take_more}
use Rattle.std.proofs.lemmas.Int.Digits.{digits_value_is, number_digits_of, all_below_base_digits_of, first_digits_of, digits_of_step, number_more, number_after_ge}
use Rattle.std.proofs.lemmas.Bool.{cases_Bool}
use Rattle.std.proofs.lemmas.Bool.Decides.{nat_tests}
use Rattle.fab_lines.specs.Numbers.{is_digit, is_number, number_of}
use Rattle.fab_names.specs.Names.{text_of}

abbrev pub glyph : ℕ → ℕ
glyph digit = 48 + digit

value_of_glyph : (digit : ℕ) → digit < 10 → digit_value (glyph digit) ≡ digit
value_of_glyph digit small = omega (arith, digit_value_digit (48 + digit) (omega arith, omega arith))

values_of_glyphs : (digits : List ℕ) → AllBelowBase 10 digits → map digit_value (map glyph digits) ≡ digits
values_of_glyphs [] all = refl
values_of_glyphs (digit ∷ digits) all = ap (λ (d : ℕ). d ∷ map digit_value (map glyph digits)) (value_of_glyph digit all.0) ∙ ap (λ (ds : List ℕ). digit ∷ ds) (values_of_glyphs digits all.1)

glyph_is_digit : (digit : ℕ) → digit < 10 → is_digit (glyph digit) ≡ true
glyph_is_digit digit small = grind (arith, nat_tests)

glyphs_are_digits : (digits : List ℕ) → AllBelowBase 10 digits → list_all is_digit (map glyph digits) ≡ true
glyphs_are_digits [] all = refl
glyphs_are_digits (digit ∷ digits) all = ap (λ (b : Bool). b && list_all is_digit (map glyph digits)) (glyph_is_digit digit all.0) ∙ glyphs_are_digits digits all.1

number_of_glyphs : (digits : List ℕ) → AllBelowBase 10 digits → 0 < get_or digits 0 0 → is_number (map glyph digits) ≡ true
number_of_glyphs [] all first = absurd (omega arith)
number_of_glyphs (digit ∷ digits) all first =
    let digits_are = glyphs_are_digits (digit ∷ digits) all in
    let not_zero : (glyph digit == 48) ≡ false = grind (arith, nat_tests) in
    let long : (suc (length (map glyph digits)) == 0) ≡ false = grind (arith, nat_tests) in
    rw (digits_are, not_zero, long) refl

value_of_glyphs : (digits : List ℕ) → AllBelowBase 10 digits → number_of (map glyph digits) ≡ number_from_digits 10 digits
value_of_glyphs digits all = digits_value_is 10 (map glyph digits) ∙ ap (number_from_digits 10) (values_of_glyphs digits all)

pub text_of_zero : text_of 0 ≡ 48 ∷ []
unfolding text_of
text_of_zero = refl

pub text_of_some : (n : ℕ) → 0 < n → text_of n ≡ map glyph (digits_of 10 n)
unfolding text_of
text_of_some n some =
    let other : (n == 0) ≡ false = grind (arith, nat_tests) in
    rw other refl

-- the text of a number is that number
pub text_is_number : (n : ℕ) → is_number (text_of n) ≡ true
unfolding text_of
text_is_number zero = refl
text_is_number (suc n) = ap is_number (text_of_some (suc n) (omega arith)) ∙ number_of_glyphs (digits_of 10 (suc n)) (all_below_base_digits_of 10 (suc n) (omega arith)) (first_digits_of 10 (suc n) (omega arith) (omega arith))

pub number_of_text : (n : ℕ) → number_of (text_of n) ≡ n
unfolding text_of
number_of_text zero = refl
number_of_text (suc n) = ap number_of (text_of_some (suc n) (omega arith)) ∙ value_of_glyphs (digits_of 10 (suc n)) (all_below_base_digits_of 10 (suc n) (omega arith)) ∙ number_digits_of 10 (suc n) (omega arith)

-- ---- and back

glyph_again : (byte : ℕ) → is_digit byte ≡ true → (glyph (digit_value byte) ≡ byte) × (digit_value byte < 10)
glyph_again byte is =
    let range : (48 ≤ byte) × (byte ≤ 57) = grind (arith, nat_tests) in
    let same = digit_value_digit byte range in
    (omega arith, omega arith)

first_both : (a b : Bool) → (a && b) ≡ true → a ≡ true
first_both true b h = refl
first_both false b h = h

second_both : (a b : Bool) → (a && b) ≡ true → b ≡ true
second_both true b h = h
second_both false b h = absurd cc

first_is_digit : (bytes : List ℕ) → list_all is_digit bytes ≡ true → 0 < length bytes → is_digit (get_or bytes 0 0) ≡ true
first_is_digit [] all some = absurd (omega arith)
first_is_digit (byte ∷ bytes) all some = first_both (is_digit byte) _ all

glyphs_again : (bytes : List ℕ) → list_all is_digit bytes ≡ true → (map glyph (map digit_value bytes) ≡ bytes) × AllBelowBase 10 (map digit_value bytes)
glyphs_again [] all = (refl, tt)
glyphs_again (byte ∷ bytes) all =
    let here = glyph_again byte (first_both (is_digit byte) _ all) in
    let more = glyphs_again bytes (second_both (is_digit byte) _ all) in
    (ap (λ (b : ℕ). b ∷ map glyph (map digit_value bytes)) here.0 ∙ ap (λ (bs : List ℕ). byte ∷ bs) more.0, (here.1, more.1))

below_at : (digits : List ℕ) (i : ℕ) → AllBelowBase 10 digits → i < length digits → get_or digits i 0 < 10
below_at [] i all within = absurd (omega arith)
below_at (digit ∷ digits) zero all within = all.0
below_at (digit ∷ digits) (suc i) all within = below_at digits i all.1 (omega arith)

below_take : (n : ℕ) (digits : List ℕ) → AllBelowBase 10 digits → AllBelowBase 10 (take n digits)
below_take zero digits all = tt
below_take (suc n) [] all = tt
below_take (suc n) (digit ∷ digits) all = (all.0, below_take n digits all.1)

first_of_take : (n : ℕ) (digits : List ℕ) → get_or (take (suc n) digits) 0 0 ≡ get_or digits 0 0
first_of_take n [] = refl
first_of_take n (digit ∷ digits) = refl

some_number : (digits : List ℕ) → 0 < get_or digits 0 0 → 0 < number_from_digits 10 digits
some_number [] first = absurd (omega arith)
some_number (digit ∷ digits) first = omega (arith, number_after_ge 10 (0 * 10 + digit) digits (omega arith))

last_step : (n front last : ℕ) → 0 < n → n ≡ front * 10 + last → last < 10 → digits_of 10 n ≡ digits_of 10 front ++ last ∷ []
last_step n front last some is small =
    let quotient : n / 10 ≡ front = omega arith in
    let rest : n % 10 ≡ last = omega arith in
    digits_of_step 10 n (omega arith) some ∙ ap (λ (q : ℕ). digits_of 10 q ++ n % 10 ∷ []) quotient ∙ ap (λ (r : ℕ). digits_of 10 front ++ r ∷ []) rest

front_step : (k : ℕ) (digits : List ℕ) → length digits ≡ suc k → number_from_digits 10 digits ≡ number_from_digits 10 (take k digits) * 10 + get_or digits k 0
front_step k digits long = ap (number_from_digits 10) (sym (take_all (k + 1) digits (omega arith))) ∙ number_more 10 digits k (omega arith)

front_and_last : (k : ℕ) (digits : List ℕ) → length digits ≡ suc k → take k digits ++ get_or digits k 0 ∷ [] ≡ digits
front_and_last k digits long = sym (take_more digits k 0 (omega arith)) ∙ take_all (k + 1) digits (omega arith)

digits_again : (k : ℕ) (digits : List ℕ) → length digits ≡ suc k → AllBelowBase 10 digits → 0 < get_or digits 0 0 → digits_of 10 (number_from_digits 10 digits) ≡ digits
digits_again zero digits long all first =
    last_step (number_from_digits 10 digits) 0 (get_or digits 0 0) (some_number digits first) (front_step 0 digits long) (below_at digits 0 all (omega arith))
    ∙ front_and_last 0 digits long
digits_again (suc k) digits long all first =
    let front = take (suc k) digits in
    let front_long : length front ≡ suc k = omega (arith, length-take (suc k) digits) in
    let front_first : 0 < get_or front 0 0 = omega (arith, first_of_take k digits) in
    last_step (number_from_digits 10 digits) (number_from_digits 10 front) (get_or digits (suc k) 0) (some_number digits first) (front_step (suc k) digits long) (below_at digits (suc k) all (omega arith))
    ∙ ap (λ (ds : List ℕ). ds ++ get_or digits (suc k) 0 ∷ []) (digits_again k front front_long (below_take (suc k) digits all) front_first)
    ∙ front_and_last (suc k) digits long

length_of_values : (bytes : List ℕ) → length (map digit_value bytes) ≡ length bytes
length_of_values [] = refl
length_of_values (byte ∷ bytes) = omega (arith, length_of_values bytes)

first_of_map : (bytes : List ℕ) → 0 < length bytes → get_or (map digit_value bytes) 0 0 ≡ digit_value (get_or bytes 0 0)
first_of_map [] some = absurd (omega arith)
first_of_map (byte ∷ bytes) some = refl

-- the text of a number again, where its first digit is not 0
text_again : (bytes : List ℕ) → list_all is_digit bytes ≡ true → 0 < length bytes → 48 < get_or bytes 0 0 → text_of (number_of bytes) ≡ bytes
text_again bytes all some first =
    let again = glyphs_again bytes all in
    let digits = map digit_value bytes in
    let first_digit : 0 < get_or digits 0 0 = omega (arith, first_of_map bytes some, (glyph_again (get_or bytes 0 0) (first_is_digit bytes all some)).0) in
    let value = digits_value_is 10 bytes in
    ap text_of value
    ∙ text_of_some (number_from_digits 10 digits) (some_number digits first_digit)
    ∙ ap (map glyph) (digits_again (length digits - 1) digits (omega (arith, length_of_values bytes)) again.1 first_digit)
    ∙ again.0

one_zero : (bytes : List ℕ) → length bytes ≡ 1 → get_or bytes 0 0 ≡ 48 → bytes ≡ 48 ∷ []
one_zero [] long first = absurd (omega arith)
one_zero (byte ∷ []) long first = ap (λ (b : ℕ). b ∷ []) first
one_zero (byte ∷ other ∷ bytes) long first = absurd (omega arith)

digit_above : (byte : ℕ) → is_digit byte ≡ true → byte ≡ 48 ⊎ 48 < byte
digit_above byte is =
    let low : 48 ≤ byte = grind (arith, nat_tests) in
    elim (cases_Bool (byte == 48)) [
      | inl zero_byte ↦ inl (grind (arith, nat_tests))
      | inr other ↦ inr (grind (arith, nat_tests))
    ]

lone_zero : (first long : ℕ) → first ≡ 48 → (not (first == 48) || (long == 1)) ≡ true → long ≡ 1
lone_zero first long is lead = grind (arith, nat_tests)

text_by_first : (bytes : List ℕ) → list_all is_digit bytes ≡ true → 0 < length bytes → (not (slice_index bytes 0 == 48) || (length bytes == 1)) ≡ true
    → get_or bytes 0 0 ≡ 48 ⊎ 48 < get_or bytes 0 0 → text_of (number_of bytes) ≡ bytes
text_by_first bytes all some lead (inl zero_first) =
    let one = one_zero bytes (lone_zero (get_or bytes 0 0) (length bytes) zero_first lead) zero_first in
    ap (λ (b : List ℕ). text_of (number_of b)) one ∙ text_of_zero ∙ sym one
text_by_first bytes all some lead (inr above) = text_again bytes all some above

some_of_long : (long : ℕ) → not (long == 0) ≡ true → 0 < long
some_of_long long is = grind (arith, nat_tests)

-- a number is the text of what it writes
pub text_of_number : (bytes : List ℕ) → is_number bytes ≡ true → text_of (number_of bytes) ≡ bytes
text_of_number bytes is =
    let front = first_both (not (length bytes == 0) && list_all is_digit bytes) _ is in
    let all = second_both (not (length bytes == 0)) (list_all is_digit bytes) front in
    let some = some_of_long (length bytes) (first_both (not (length bytes == 0)) (list_all is_digit bytes) front) in
    let lead = second_both (not (length bytes == 0) && list_all is_digit bytes) _ is in
    text_by_first bytes all some lead (digit_above (get_or bytes 0 0) (first_is_digit bytes all some))
