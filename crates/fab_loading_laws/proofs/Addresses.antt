-- The bits of address words.
use Rattle.std.proofs.Common.{◌≡◌, ℕ, zero, suc, ◌+◌, ◌*◌, ◌/◌, ◌%◌, ◌^◌, ◌<◌, ◌∙◌, false, ◌∷◌, ◌++◌, length, get_or, slice_range, nat_eq, refl, sym, ap, arith, pow-suc, pow_mono}
use Rattle.std.proofs.Math.Nat.{mul_assoc, mul_comm}
use Rattle.std.proofs.Math.ListN.{get_or-append}
use Rattle.std.proofs.lemmas.Bool.{ne_eqb}
use Rattle.std.proofs.lemmas.Bool.Decides.{eqb_tells}
use Rattle.fab_bits.specs.Bits.{number, digits}
use Rattle.fab_gen_loader.specs.Machine.{end_bit}
use Rattle.fab_frames.specs.Stream.{address_word}
use Rattle.fab_frames.proofs.Numbers.{number_digits}

double : (k n : ℕ) → k * 2 ^ suc n ≡ 2 * (k * 2 ^ n)
double k n = ap (λ p. k * p) (pow-suc 2 n) ∙ sym (mul_assoc k (2 ^ n) 2) ∙ mul_comm (k * 2 ^ n) 2

-- a number of two parts has the digits of both
digits_parts : (low_width width low high : ℕ) → low < 2 ^ low_width → digits (low_width + width) (high * 2 ^ low_width + low) ≡ digits low_width low ++ digits width high
digits_parts zero width low high small =
    let all : 0 + width ≡ width = omega arith in
    let only : high * 1 + low ≡ high = omega arith in
    rw (all, only) refl
digits_parts (suc low_width) width low high small =
    let all : suc low_width + width ≡ suc (low_width + width) = omega arith in
    let doubled : high * 2 ^ suc low_width ≡ 2 * (high * 2 ^ low_width) = double high low_width in
    let first : (2 * (high * 2 ^ low_width) + low) % 2 ≡ low % 2 = omega arith in
    let rest : (2 * (high * 2 ^ low_width) + low) / 2 ≡ high * 2 ^ low_width + low / 2 = omega arith in
    let half : low / 2 < 2 ^ low_width = omega (arith, pow-suc 2 low_width) in
    rw (all, doubled, first, rest) (ap (λ bits. nat_eq (low % 2) 1 ∷ bits) (digits_parts low_width width (low / 2) high half))

no_digit : (width place : ℕ) → get_or (digits width 0) place false ≡ false
no_digit zero place = refl
no_digit (suc width) zero = refl
no_digit (suc width) (suc place) = no_digit width place

same_after : (a b : ℕ) → nat_eq a b ≡ nat_eq (suc a) (suc b)
same_after a b = grind (arith, eqb_tells a b, eqb_tells (suc a) (suc b))

-- a power of two has one digit
power_digit : (width power place : ℕ) → place < width → get_or (digits width (2 ^ power)) place false ≡ nat_eq place power
power_digit zero power place few = absurd (omega arith)
power_digit (suc width) zero zero few = refl
power_digit (suc width) zero (suc place) few = no_digit width place ∙ sym (ne_eqb (suc place) 0 (λ e. omega (arith, e)))
power_digit (suc width) (suc power) zero few =
    let even : 2 ^ suc power % 2 ≡ 0 = omega (arith, pow-suc 2 power) in
    ap (λ n. nat_eq n 1) even ∙ sym (ne_eqb 0 (suc power) (λ e. omega (arith, e)))
power_digit (suc width) (suc power) (suc place) few =
    let half : 2 ^ suc power / 2 ≡ 2 ^ power = omega (arith, pow-suc 2 power) in
    ap (λ n. get_or (digits width n) place false) half ∙ power_digit width power place (omega arith) ∙ same_after place power

length_digits : (width n : ℕ) → length (digits width n) ≡ width
length_digits zero n = refl
length_digits (suc width) n = ap suc (length_digits width (n / 2))

module _ (x frame : ℕ) (in_columns : x < 32) (in_frames : frame < 20) where
  address_parts : digits 32 (address_word x frame) ≡ digits 27 (2 ^ frame) ++ digits 5 x
  address_parts =
      let small : 2 ^ frame < 2 ^ 27 = omega (arith, pow_mono {i = frame} {j = 20} (omega arith)) in
      digits_parts 27 5 (2 ^ frame) x small

  pub address_column : number (slice_range (digits 32 (address_word x frame)) 27 32) ≡ x
  address_column = ap (λ bits. number (slice_range bits 27 32)) address_parts ∙ number_digits 5 x (omega arith)

  pub address_bit : (place : ℕ) → place < 27 → get_or (digits 32 (address_word x frame)) place false ≡ nat_eq place frame
  address_bit place low =
      let inside : place < length (digits 27 (2 ^ frame)) = omega (arith, length_digits 27 (2 ^ frame)) in
      ap (λ bits. get_or bits place false) address_parts
      ∙ get_or-append (digits 27 (2 ^ frame)) (digits 5 x) false place inside
      ∙ power_digit 27 frame place low

  pub address_goes_on : get_or (digits 32 (address_word x frame)) end_bit false ≡ false
  address_goes_on = address_bit 20 (omega arith) ∙ ne_eqb 20 frame (λ e. omega (arith, e))
