-- Words as bits.
use mir.Val.{bool_byte}
use Rattle.std.proofs.Common.{◌≡◌, ℕ, zero, suc, ◌+◌, ◌*◌, ◌/◌, ◌%◌, ◌^◌, ◌<◌, ◌≤◌, Bool, true, false, List, [], ◌∷◌, length, get_or, refl, sym, ap, ◌∙◌, arith, nat_eq, bit_or, pow-suc, subst, inl, inr}
use Rattle.std.proofs.Math.Nat.{div-one, mul_assoc, mul_comm, add_comm}
use Rattle.std.proofs.lemmas.Nat.{or_shifted, or_comm, one_shl, shr-shr}
use Rattle.std.proofs.lemmas.Bool.{cases_lt}
use Rattle.fab_bits.specs.Bits.{bit_number, number, digits, first_bits}
use Rattle.fab_bits.proofs.Numbers.{length_first_bits}

-- a number as its first bit and the rest
halves : (bit : Bool) (n : ℕ) → (nat_eq ((bit_number bit + 2 * n) % 2) 1 ≡ bit) × ((bit_number bit + 2 * n) / 2 ≡ n)
halves true n = let low : (1 + 2 * n) % 2 ≡ 1 = omega arith in (ap (λ k. nat_eq k 1) low, omega arith)
halves false n = let low : (0 + 2 * n) % 2 ≡ 0 = omega arith in (ap (λ k. nat_eq k 1) low, omega arith)

-- the digits of the number that bits stand for are these bits
pub digits_number : (bits : List Bool) → digits (length bits) (number bits) ≡ bits
digits_number [] = refl
digits_number (bit ∷ bits) =
    let low : nat_eq ((bit_number bit + 2 * number bits) % 2) 1 ≡ bit = (halves bit (number bits)).0 in
    let high : (bit_number bit + 2 * number bits) / 2 ≡ number bits = (halves bit (number bits)).1 in
    let rest = digits_number bits in
    rw (low, high, rest) refl

rest_of_bit : (n : ℕ) → bit_number (nat_eq (n % 2) 1) + 2 * (n / 2) ≡ n
rest_of_bit n =
    elim (cases_lt (n % 2) 1) [
      | inl less ↦ (let low : n % 2 ≡ 0 = omega (arith, less) in rw low (omega (arith, low)))
      | inr past ↦ (let low : n % 2 ≡ 1 = omega (arith, past) in rw low (omega (arith, low)))
    ]

-- the number of the digits of a number is this number, where the width is enough
pub number_digits : (width n : ℕ) → n < 2 ^ width → number (digits width n) ≡ n
number_digits zero n small = omega (arith, small)
number_digits (suc width) n small =
    let half : n / 2 < 2 ^ width = omega (arith, small, pow-suc 2 width) in
    ap (λ k. bit_number (nat_eq (n % 2) 1) + 2 * k) (number_digits width (n / 2) half) ∙ rest_of_bit n

pub number_below : (bits : List Bool) → number bits < 2 ^ length bits
number_below [] = omega arith
number_below (bit ∷ bits) =
    let rest = number_below bits in
    let small : bit_number bit ≤ 1 = elim bit as (λ b. bit_number b ≤ 1) [ true ↦ omega arith | false ↦ omega arith ] in
    omega (arith, rest, small, pow-suc 2 (length bits))

double : (k n : ℕ) → k * 2 ^ suc n ≡ 2 * (k * 2 ^ n)
double k n = ap (λ p. k * p) (pow-suc 2 n) ∙ sym (mul_assoc k (2 ^ n) 2) ∙ mul_comm (k * 2 ^ n) 2

one_times : (n : ℕ) → 1 * n ≡ n
one_times n = omega arith

-- one bit more on top
number_last : (n : ℕ) (f : ℕ → Bool) → number (first_bits (suc n) f) ≡ number (first_bits n f) + bit_number (f n) * 2 ^ n
number_last zero f = omega arith
number_last (suc n) f =
    let rest : number (first_bits (suc n) (λ i. f (suc i))) ≡ number (first_bits n (λ i. f (suc i))) + bit_number (f (suc n)) * 2 ^ n = number_last n (λ i. f (suc i)) in
    let doubled : bit_number (f (suc n)) * 2 ^ suc n ≡ 2 * (bit_number (f (suc n)) * 2 ^ n) = double (bit_number (f (suc n))) n in
    omega (arith, rest, doubled)

pub number_more : (n : ℕ) (f : ℕ → Bool) → number (first_bits (n + 1) f) ≡ number (first_bits n f) + bit_number (f n) * 2 ^ n
number_more n f =
    let next : n + 1 ≡ suc n = omega arith in
    ap (λ k. number (first_bits k f)) next ∙ number_last n f

one_more : (i : ℕ) → 1 + i ≡ suc i
one_more i = omega arith

-- a digit of a number
pub digit_at : (width n i : ℕ) → i < width → get_or (digits width n) i false ≡ nat_eq (n / 2 ^ i % 2) 1
digit_at zero n i few = absurd (omega (arith, few))
digit_at (suc width) n zero few = ap (λ k. nat_eq (k % 2) 1) (sym (div-one n))
digit_at (suc width) n (suc i) few =
    digit_at width (n / 2) i (omega (arith, few)) ∙ ap (λ k. nat_eq (k % 2) 1) (shr-shr n 1 i ∙ ap (λ k. n / 2 ^ k) (one_more i))

-- a bit above all others
pub or_bit : (word bit : ℕ) (value : Bool) → bit < 32 → word < 2 ^ bit → bit_or word (bit_number value * 2 ^ bit % 4294967296) ≡ word + bit_number value * 2 ^ bit
or_bit word bit value small low =
    let shifted : bit_number value * 2 ^ bit % 4294967296 ≡ bit_number value * 2 ^ bit =
    elim value as (λ v. bit_number v * 2 ^ bit % 4294967296 ≡ bit_number v * 2 ^ bit) [
      | true ↦ one_shl bit 32 small ∙ sym (one_times (2 ^ bit))
      | false ↦ omega arith
    ] in
    ap (bit_or word) shifted ∙ or_comm word (bit_number value * 2 ^ bit) ∙ or_shifted (bit_number value) bit word low ∙ add_comm (bit_number value * 2 ^ bit) word

-- the bits so far, and one more
pub bits_more : (n word : ℕ) (f : ℕ → Bool) (value : Bool) → n < 32 → word ≡ number (first_bits n f) → value ≡ f n → bit_or word (bit_number value * 2 ^ n % 4294967296) ≡ number (first_bits (n + 1) f)
bits_more n word f value small word_is value_is =
    let low : word < 2 ^ n = subst (λ (k : ℕ). k < 2 ^ n) (sym word_is) (subst (λ (k : ℕ). number (first_bits n f) < 2 ^ k) (length_first_bits n f) (number_below (first_bits n f))) in
    or_bit word n value small low ∙ ap (λ k. k + bit_number value * 2 ^ n) word_is ∙ ap (λ v. number (first_bits n f) + bit_number v * 2 ^ n) value_is ∙ sym (number_more n f)

-- a truth value as a number
pub byte_is : (value : Bool) → bool_byte value ≡ bit_number value
byte_is true = refl
byte_is false = refl
