-- The size of a number by its first digit.
use Rattle.std.proofs.Common.{◌≡◌, ℕ, zero, suc, ◌+◌, ◌-◌, ◌*◌, ◌^◌, ◌<◌, ◌≤◌, true, false, ltb, sym, ap, ◌∙◌, arith, lit≤, add-one}
use Rattle.std.proofs.lemmas.Bool.{lt-ltb, le-ltb}
use Rattle.std.proofs.lemmas.Nat.{pow-add}
use Rattle.std.proofs.Math.Nat.{pow-zero, pow-suc, pow-le-pow_left, mul-le-mul_left, mul-le-mul_right}
use Rattle.fab_fasm.specs.inner.Leading.{BeginsWith}
use Rattle.fab_fasm.proofs.LimbSums.{above_weight}
use Rattle.fab_fasm.proofs.Powers.{power_more}

pub power_of_power : (width count : ℕ) → (2 ^ width) ^ count ≡ 2 ^ (width * count)
power_of_power width zero = let none : width * zero ≡ zero = omega arith in pow-zero (2 ^ width) ∙ ap (λ (n : ℕ). 2 ^ n) (sym none)
power_of_power width (suc count) =
    let more : width * count + width ≡ width * suc count = omega arith in
    pow-suc (2 ^ width) count ∙ ap (λ (n : ℕ). n * 2 ^ width) (power_of_power width count) ∙ sym (pow-add 2 (width * count) width) ∙ ap (λ (n : ℕ). 2 ^ n) more

-- ---- one digit more

-- behind a first digit that is 0
pub first_digit : (radix digit number first behind : ℕ) → BeginsWith radix first behind number → first ≡ 0 → BeginsWith radix digit behind (number * radix + digit)
first_digit radix digit number first behind begins zero_first =
    let last : behind ≡ 0 = begins.none zero_first in
    let one : radix ^ behind ≡ 1 = ap (λ (n : ℕ). radix ^ n) last ∙ pow-zero radix in
    let high : number < (first + 1) * 1 = rw one at begins.high in
    let nothing : number ≡ 0 = omega (arith, high, zero_first) in
    let value : number * radix + digit ≡ digit = ap (λ (n : ℕ). n * radix + digit) nothing ∙ omega arith in
    let low : digit * radix ^ behind ≡ digit = ap (λ (w : ℕ). digit * w) one ∙ omega arith in
    let above : (digit + 1) * radix ^ behind ≡ digit + 1 = ap (λ (w : ℕ). (digit + 1) * w) one ∙ omega arith in
    record { low = omega (arith, low, value); high = omega (arith, above, value); none = λ is. last }

scaled_low : (first weight number radix digit : ℕ) → first * weight ≤ number → first * (weight * radix) ≤ number * radix + digit
scaled_low first weight number radix digit low =
    let product : first * weight * radix ≤ number * radix = mul-le-mul_right radix low in
    let same : first * (weight * radix) ≡ first * weight * radix = omega arith in
    omega (arith, product, same)

scaled_high : (first weight number radix digit : ℕ) → number < (first + 1) * weight → digit < radix → number * radix + digit < (first + 1) * (weight * radix)
scaled_high first weight number radix digit high below =
    let whole : number + 1 ≤ (first + 1) * weight = omega (arith, high) in
    let product : (number + 1) * radix ≤ (first + 1) * weight * radix = mul-le-mul_right radix whole in
    let same : (first + 1) * (weight * radix) ≡ (first + 1) * weight * radix = omega arith in
    omega (arith, product, same, below)

pub later_digit : (radix digit number first behind : ℕ) → BeginsWith radix first behind number → (first ≡ 0 → ⊥) → digit < radix → BeginsWith radix first (behind + 1) (number * radix + digit)
later_digit radix digit number first behind begins some below =
    let weight : radix ^ (behind + 1) ≡ radix ^ behind * radix = ap (λ (n : ℕ). radix ^ n) (add-one behind) ∙ pow-suc radix behind in
    record {
      low = rw weight (scaled_low first (radix ^ behind) number radix digit begins.low);
      high = rw weight (scaled_high first (radix ^ behind) number radix digit begins.high below);
      none = λ is. absurd (some is);
    }

-- ---- against a power of two

-- a number is judged by its first digit
pub narrow_first : (width digit behind number bits : ℕ) → BeginsWith (2 ^ width) digit behind number → behind * width ≤ bits → ltb digit (2 ^ (bits - behind * width)) ≡ ltb number (2 ^ bits)
narrow_first width digit behind number bits begins within =
    let turned : width * behind ≡ behind * width = omega arith in
    let weight : (2 ^ width) ^ behind ≡ 2 ^ (behind * width) = power_of_power width behind ∙ ap (λ (n : ℕ). 2 ^ n) turned in
    let low : digit * 2 ^ (behind * width) ≤ number = rw weight at begins.low in
    let high : number < (digit + 1) * 2 ^ (behind * width) = rw weight at begins.high in
    let rest : number - 2 ^ (behind * width) * digit < 2 ^ (behind * width) = omega (arith, low, high) in
    let parts : number - 2 ^ (behind * width) * digit + 2 ^ (behind * width) * digit ≡ number = omega (arith, low) in
    let sum : behind * width + (bits - behind * width) ≡ bits = omega (arith, within) in
    let power : 2 ^ (behind * width) * 2 ^ (bits - behind * width) ≡ 2 ^ bits = sym (pow-add 2 (behind * width) (bits - behind * width)) ∙ ap (λ (n : ℕ). 2 ^ n) sum in
    sym (above_weight (number - 2 ^ (behind * width) * digit) (2 ^ (behind * width)) digit (2 ^ (bits - behind * width)) rest)
    ∙ ap (λ (n : ℕ). ltb n (2 ^ (behind * width) * 2 ^ (bits - behind * width))) parts ∙ ap (ltb number) power

-- a number whose digits behind the first have more bits already is too great
pub wide_first : (width digit behind number bits : ℕ) → BeginsWith (2 ^ width) digit behind number → bits < behind * width → ltb number (2 ^ bits) ≡ false
wide_first width digit behind number bits begins beyond =
    let some : digit ≡ 0 → ⊥ = λ is. let none : behind * width ≡ 0 * width = ap (λ (n : ℕ). n * width) (begins.none is) in omega (arith, beyond, none) in
    let turned : width * behind ≡ behind * width = omega arith in
    let weight : (2 ^ width) ^ behind ≡ 2 ^ (behind * width) = power_of_power width behind ∙ ap (λ (n : ℕ). 2 ^ n) turned in
    let low : digit * 2 ^ (behind * width) ≤ number = rw weight at begins.low in
    let one : 1 * 2 ^ (behind * width) ≤ digit * 2 ^ (behind * width) = mul-le-mul_right (2 ^ (behind * width)) (omega (arith, some)) in
    let more = power_more bits (behind * width) (omega (arith, beyond)) in
    le-ltb number (2 ^ bits) (omega (arith, low, one, more))

-- ---- decimals

-- a decimal digit is below 16
pub few_digits : (digit behind number bits : ℕ) → BeginsWith 10 digit behind number → digit < 10 → behind * 4 + 4 ≤ bits → ltb number (2 ^ bits) ≡ true
few_digits digit behind number bits begins below within =
    let turned : 4 * behind ≡ behind * 4 = omega arith in
    let weight : 10 ^ behind ≤ 16 ^ behind = pow-le-pow_left (lit≤ tt) behind in
    let sixteen : 16 ^ behind ≡ 2 ^ (behind * 4) = power_of_power 4 behind ∙ ap (λ (n : ℕ). 2 ^ n) turned in
    let first : (digit + 1) * 10 ^ behind ≤ 16 * 10 ^ behind = mul-le-mul_right (10 ^ behind) (omega (arith, below)) in
    let scaled : 16 * 10 ^ behind ≤ 16 * 16 ^ behind = mul-le-mul_left 16 weight in
    let whole : 2 ^ (behind * 4) * 16 ≡ 2 ^ (behind * 4 + 4) = sym (pow-add 2 (behind * 4) 4) in
    let more = power_more (behind * 4 + 4) bits within in
    lt-ltb number (2 ^ bits) (omega (arith, begins.high, first, scaled, sixteen, whole, more))

-- a decimal digit behind the first stands for 10, which is more than 8
pub many_digits : (digit behind number bits : ℕ) → BeginsWith 10 digit behind number → (digit ≡ 0 → ⊥) → bits ≤ behind * 3 → ltb number (2 ^ bits) ≡ false
many_digits digit behind number bits begins some beyond =
    let turned : 3 * behind ≡ behind * 3 = omega arith in
    let weight : 8 ^ behind ≤ 10 ^ behind = pow-le-pow_left (lit≤ tt) behind in
    let eight : 8 ^ behind ≡ 2 ^ (behind * 3) = power_of_power 3 behind ∙ ap (λ (n : ℕ). 2 ^ n) turned in
    let one : 1 * 10 ^ behind ≤ digit * 10 ^ behind = mul-le-mul_right (10 ^ behind) (omega (arith, some)) in
    let more = power_more bits (behind * 3) beyond in
    le-ltb number (2 ^ bits) (omega (arith, begins.low, one, weight, eight, more))
