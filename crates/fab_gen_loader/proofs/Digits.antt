-- Digits and the numbers that they stand for.
use Rattle.std.proofs.Common.{◌≡◌, ℕ, zero, suc, ◌+◌, ◌-◌, ◌*◌, ◌/◌, ◌%◌, ◌^◌, Bool, true, false, List, [], ◌∷◌, length, nat_eq, refl, ap, ap₂, ◌∙◌, arith, pow-suc}
use Rattle.std.proofs.Math.Nat.{mul_assoc, mul_comm}
use Rattle.fab_bits.specs.Bits.{bit_number, number, digits}

first_digit : (bit : Bool) (k : ℕ) → nat_eq ((bit_number bit + 2 * k) % 2) 1 ≡ bit
first_digit true k = let e : (1 + 2 * k) % 2 ≡ 1 = omega arith in rw e refl
first_digit false k = let e : (0 + 2 * k) % 2 ≡ 0 = omega arith in rw e refl

other_digits : (bit : Bool) (k : ℕ) → (bit_number bit + 2 * k) / 2 ≡ k
other_digits true k = omega arith
other_digits false k = omega arith

-- bits are the digits of their number
pub digits_number : (bits : List Bool) → digits (length bits) (number bits) ≡ bits
digits_number [] = refl
digits_number (bit ∷ bits) =
    ap₂ (λ first rest. first ∷ digits (length bits) rest) (first_digit bit (number bits)) (other_digits bit (number bits))
    ∙ ap (λ rest. bit ∷ rest) (digits_number bits)

-- a number that is too large has the digits of what is left of it
pub digits_past : (width n q : ℕ) → digits width (n + 2 ^ width * q) ≡ digits width n
digits_past zero n q = refl
digits_past (suc width) n q =
    let power : 2 ^ suc width * q ≡ 2 * (2 ^ width * q) = ap (λ p. p * q) (pow-suc 2 width ∙ mul_comm (2 ^ width) 2) ∙ mul_assoc 2 (2 ^ width) q in
    let first : (n + 2 * (2 ^ width * q)) % 2 ≡ n % 2 = omega arith in
    let rest : (n + 2 * (2 ^ width * q)) / 2 ≡ n / 2 + 2 ^ width * q = omega arith in
    rw (power, first, rest) (ap (λ digits_left. nat_eq (n % 2) 1 ∷ digits_left) (digits_past width (n / 2) q))

-- one less, with 5 digits
pub one_less : (n : ℕ) → digits 5 (n + 32 - 1) ≡ digits 5 ((n + 31) % 32)
one_less n =
    let e : n + 32 - 1 ≡ (n + 31) % 32 + 32 * ((n + 31) / 32) = omega arith in
    ap (digits 5) e ∙ digits_past 5 ((n + 31) % 32) ((n + 31) / 32)
