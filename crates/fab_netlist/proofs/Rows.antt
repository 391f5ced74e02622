-- Rows of covers, as 16 bits at once: those of the values of the first four inputs.
use Rattle.std.proofs.Common.{◌≡◌, ℕ, zero, suc, ◌+◌, ◌-◌, ◌*◌, ◌/◌, ◌%◌, ◌^◌, ◌<◌, ◌≤◌, Bool, true, false, not, ◌&&◌, ◌||◌, List, [], ◌∷◌, ◌++◌, take, length, get_or, max, if◌then◌else◌, nat_eq, bit_and, refl, sym, ap, ◌∙◌, inl, inr, arith, pow-suc, eqb-true, eq-eqb}
use Rattle.std.specs.List.{list_any}
use Rattle.std.specs.Int.Bits.{bit_or, or_step}
use Rattle.std.proofs.lemmas.Bool.{cases_Bool, eqb-false}
use Rattle.std.proofs.lemmas.List.{take_more}
use Rattle.std.proofs.lemmas.List.Folds.{list_any-append}
use Rattle.std.proofs.lemmas.Nat.{and_block, and_le_r}
use Rattle.fab_bits.specs.Bits.{bit_number, number, first_bits}
use Rattle.fab_bits.proofs.Numbers.{first_bits_same}
use Rattle.fab_netlist.specs.declared.wide.Cube.{Cube}
use Rattle.fab_netlist.specs.Wide.{matches, rows_say}

-- ---- lists of bits

-- a bit in front of two numbers
or_bits : (a b : Bool) (x y : ℕ) → bit_number (a || b) + 2 * bit_or x y ≡ bit_or (bit_number a + 2 * x) (bit_number b + 2 * y)
or_bits a b x y =
    let high_x : (bit_number a + 2 * x) / 2 ≡ x = halves a x in
    let high_y : (bit_number b + 2 * y) / 2 ≡ y = halves b y in
    let low_x : (bit_number a + 2 * x) % 2 ≡ bit_number a = lowest a x in
    let low_y : (bit_number b + 2 * y) % 2 ≡ bit_number b = lowest b y in
    sym (or_step (bit_number a + 2 * x) (bit_number b + 2 * y) ∙ rw (high_x, high_y, low_x, low_y) (joined a b (bit_or x y)))
  where
    halves : (a : Bool) (x : ℕ) → (bit_number a + 2 * x) / 2 ≡ x
    halves true x = omega arith
    halves false x = omega arith

    lowest : (a : Bool) (x : ℕ) → (bit_number a + 2 * x) % 2 ≡ bit_number a
    lowest true x = omega arith
    lowest false x = omega arith

    joined : (a b : Bool) (z : ℕ) → z * 2 + max (bit_number a) (bit_number b) ≡ bit_number (a || b) + 2 * z
    joined true true z = omega arith
    joined true false z = omega arith
    joined false true z = omega arith
    joined false false z = omega arith

-- the bits of either
or_first_bits : (n : ℕ) (f g : ℕ → Bool) → number (first_bits n (λ i. f i || g i)) ≡ bit_or (number (first_bits n f)) (number (first_bits n g))
or_first_bits zero f g = refl
or_first_bits (suc n) f g =
    ap (λ (k : ℕ). bit_number (f 0 || g 0) + 2 * k) (or_first_bits n (λ i. f (suc i)) (λ i. g (suc i)))
    ∙ or_bits (f 0) (g 0) (number (first_bits n (λ i. f (suc i)))) (number (first_bits n (λ i. g (suc i))))

-- the opposite bits
opposite_bits : (n : ℕ) (f : ℕ → Bool) → number (first_bits n (λ i. not (f i))) + number (first_bits n f) + 1 ≡ 2 ^ n
opposite_bits zero f = refl
opposite_bits (suc n) f = opposite_bit (f 0) (number (first_bits n (λ i. not (f (suc i))))) (number (first_bits n (λ i. f (suc i)))) n (opposite_bits n (λ i. f (suc i)))
  where
    opposite_bit : (b : Bool) (x y n : ℕ) → x + y + 1 ≡ 2 ^ n → bit_number (not b) + 2 * x + (bit_number b + 2 * y) + 1 ≡ 2 ^ suc n
    opposite_bit true x y n h = omega (arith, h, pow-suc 2 n)
    opposite_bit false x y n h = omega (arith, h, pow-suc 2 n)

-- no bits
no_bits : (n : ℕ) → number (first_bits n (λ i. false)) ≡ 0
no_bits zero = refl
no_bits (suc n) = omega (arith, no_bits n)

-- the bits from one place before on
pub bits_before : (f : ℕ → Bool) (place mask bit : ℕ) → 0 < place → place ≤ 16 → mask ≡ number (first_bits (16 - place) (λ i. f (place + i))) → bit ≡ bit_number (f (place - 1))
    → 2 * mask + bit ≡ number (first_bits (16 - (place - 1)) (λ i. f (place - 1 + i)))
bits_before f place mask bit some within high is =
    let more : 16 - (place - 1) ≡ suc (16 - place) = omega arith in
    let same : (i : ℕ) → i < 16 - place → f (place - 1 + suc i) ≡ f (place + i) = λ i l. ap f (omega arith) in
    let rest : number (first_bits (16 - place) (λ i. f (place - 1 + suc i))) ≡ mask = ap number (first_bits_same (16 - place) (λ i. f (place - 1 + suc i)) (λ i. f (place + i)) same) ∙ sym high in
    let none : place - 1 + 0 ≡ place - 1 = omega arith in
    let first : bit_number (f (place - 1 + 0)) ≡ bit = ap (λ (p : ℕ). bit_number (f p)) none ∙ sym is in
    let whole : bit_number (f (place - 1 + 0)) + 2 * number (first_bits (16 - place) (λ i. f (place - 1 + suc i))) ≡ 2 * mask + bit = omega (arith, rest, first) in
    sym (ap (λ (n : ℕ). number (first_bits n (λ i. f (place - 1 + i)))) more ∙ whole)

-- all 16 of them
pub bits_whole : (f : ℕ → Bool) (place mask : ℕ) → place ≤ 0 → mask ≡ number (first_bits (16 - place) (λ i. f (place + i))) → mask ≡ number (first_bits 16 f)
bits_whole f zero mask ends high = high
bits_whole f (suc place) mask ends high = absurd (omega (arith, ends))

pub mask_small : (place mask bit : ℕ) → 0 < place → place ≤ 16 → mask < 2 ^ (16 - place) → bit ≤ 1 → 2 * mask + bit < 2 ^ (16 - (place - 1))
mask_small place mask bit some within small low =
    let more : 16 - (place - 1) ≡ suc (16 - place) = omega arith in
    rw more (omega (arith, pow-suc 2 (16 - place)))

-- ---- one row

-- what a row asks of the first four inputs, and of those from the fifth on
abbrev pub asks_lower : Cube → (low : ℕ) → Bool
asks_lower cube low = nat_eq (bit_and low (cube.care % 16)) (cube.value % 16)

abbrev pub asks_upper : Cube → (place : ℕ) → Bool
asks_upper cube place = nat_eq (bit_and place (cube.care / 16)) (cube.value / 16)

-- two numbers of which the last four bits stand apart
same_in_parts : (a b r s : ℕ) → r < 16 → s < 16 → nat_eq (a * 16 + r) (b * 16 + s) ≡ (nat_eq a b && nat_eq r s)
same_in_parts a b r s small_r small_s =
    elim (cases_Bool (nat_eq a b)) [
      | inl same ↦ (
          let equal : a ≡ b = eqb-true a b same in
          elim (cases_Bool (nat_eq r s)) [
            | inl low ↦ rw (same, low) (eq-eqb (a * 16 + r) (b * 16 + s) (omega (arith, equal, eqb-true r s low)))
            | inr low ↦ rw (same, low) (not_equal (a * 16 + r) (b * 16 + s) (λ e. eqb-false r s low (omega (arith, e, equal))))
          ])
      | inr other ↦ rw other (not_equal (a * 16 + r) (b * 16 + s) (λ e. eqb-false a b other (omega (arith, e, small_r, small_s))))
    ]
  where
    not_equal : (x y : ℕ) → (x ≡ y → ⊥) → nat_eq x y ≡ false
    not_equal x y differ = elim (cases_Bool (nat_eq x y)) [
      | inl same ↦ absurd (differ (eqb-true x y same))
      | inr other ↦ other
    ]

-- a row matches where both parts are as it asks
matches_parts : (cube : Cube) (place low : ℕ) → low < 16 → matches cube (16 * place + low) ≡ (asks_upper cube place && asks_lower cube low)
matches_parts cube place low small =
    let care : cube.care ≡ cube.care / 16 * 16 + cube.care % 16 = omega arith in
    let value : cube.value ≡ cube.value / 16 * 16 + cube.value % 16 = omega arith in
    let at : 16 * place + low ≡ place * 16 + low = omega arith in
    let both : bit_and (16 * place + low) cube.care ≡ bit_and place (cube.care / 16) * 16 + bit_and low (cube.care % 16) =
    (λ j. bit_and (at j) (care j)) ∙ and_block 4 place (cube.care / 16) low (cube.care % 16) small (omega arith) in
    (λ j. nat_eq (both j) (value j))
    ∙ same_in_parts (bit_and place (cube.care / 16)) (cube.value / 16) (bit_and low (cube.care % 16)) (cube.value % 16) (omega (arith, and_le_r low (cube.care % 16))) (omega arith)

-- the values of the first four inputs that a row matches
abbrev pub row_bits : Cube → (place : ℕ) → ℕ
row_bits cube place = number (first_bits 16 (λ low. matches cube (16 * place + low)))

pub row_above : (cube : Cube) (place : ℕ) → asks_upper cube place ≡ true → number (first_bits 16 (asks_lower cube)) ≡ row_bits cube place
row_above cube place asks =
    ap number (first_bits_same 16 (asks_lower cube) (λ low. matches cube (16 * place + low))
    (λ low small. sym (matches_parts cube place low small ∙ ap (λ (b : Bool). b && asks_lower cube low) asks)))

pub row_none : (cube : Cube) (place : ℕ) → asks_upper cube place ≡ false → 0 ≡ row_bits cube place
row_none cube place asks =
    sym (ap number (first_bits_same 16 (λ low. matches cube (16 * place + low)) (λ low. false)
    (λ low small. matches_parts cube place low small ∙ ap (λ (b : Bool). b && asks_lower cube low) asks)) ∙ no_bits 16)

-- ---- rows

abbrev pub rows_bits : (rows : List Cube) (place : ℕ) → ℕ
rows_bits rows place = number (first_bits 16 (λ low. list_any (λ cube. matches cube (16 * place + low)) rows))

any_push : {X : Type 0} (test : X → Bool) (xs : List X) (x : X) → list_any test (xs ++ x ∷ []) ≡ (list_any test xs || test x)
any_push test xs x = list_any-append test xs (x ∷ []) ∙ ap (λ (b : Bool). list_any test xs || b) (or_false (test x))
  where
    or_false : (b : Bool) → (b || false) ≡ b
    or_false true = refl
    or_false false = refl

-- one row more
rows_more : (rows : List Cube) (place turn : ℕ) (d : Cube) → turn < length rows → bit_or (rows_bits (take turn rows) place) (row_bits (get_or rows turn d) place) ≡ rows_bits (take (turn + 1) rows) place
rows_more rows place turn d small =
    let cube = get_or rows turn d in
    let before = take turn rows in
    sym (ap (λ (some : List Cube). rows_bits some place) (take_more rows turn d small)
    ∙ ap number (first_bits_same 16 (λ low. list_any (λ c. matches c (16 * place + low)) (before ++ cube ∷ [])) (λ low. list_any (λ c. matches c (16 * place + low)) before || matches cube (16 * place + low))
    (λ low below. any_push (λ c. matches c (16 * place + low)) before cube))
    ∙ or_first_bits 16 (λ low. list_any (λ c. matches c (16 * place + low)) before) (λ low. matches cube (16 * place + low)))

pub rows_step : (rows items : List Cube) (place turn covered bits : ℕ) (d : Cube) → items ≡ rows → turn < length items → covered ≡ rows_bits (take turn rows) place → bits ≡ row_bits (get_or items turn d) place →
    bit_or covered bits ≡ rows_bits (take (turn + 1) rows) place
rows_step rows items place turn covered bits d same small before one =
    let here : bits ≡ row_bits (get_or rows turn d) place = one ∙ ap (λ (list : List Cube). row_bits (get_or list turn d) place) same in
    (λ j. bit_or (before j) (here j)) ∙ rows_more rows place turn d (omega (arith, small, ap length same))

pub rows_at_first : (place : ℕ) → 0 ≡ rows_bits [] place
rows_at_first place = sym (no_bits 16)

-- what rows of an on-set and of an off-set say
abbrev pub word_bits : (on : Bool) (rows : List Cube) (place : ℕ) → ℕ
word_bits on rows place = number (first_bits 16 (λ low. rows_say on rows (16 * place + low)))

pub word_on : (on : Bool) (rows : List Cube) (place : ℕ) → on ≡ true → rows_bits rows place ≡ word_bits on rows place
word_on true rows place is = refl
word_on false rows place is = absurd (let bad : ⊥ = cc in bad)

pub word_off : (on : Bool) (rows : List Cube) (place : ℕ) → on ≡ false → 65535 - rows_bits rows place ≡ word_bits on rows place
word_off true rows place is = absurd (let bad : ⊥ = cc in bad)
word_off false rows place is = omega (arith, opposite_bits 16 (λ low. list_any (λ cube. matches cube (16 * place + low)) rows))
