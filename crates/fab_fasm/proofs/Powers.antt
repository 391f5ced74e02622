-- Powers of two.
use Rattle.std.proofs.Common.{◌≡◌, ℕ, ◌/◌, ◌^◌, ◌<◌, ◌≤◌, false, eqb, ltb, leb, sym, ap, ◌∙◌, inl, inr, arith, lt_of_lt_of_le, lit<}
use Rattle.std.proofs.Math.Nat.{div-eq_of_lt, pow-le-pow_right}
use Rattle.std.proofs.lemmas.Bool.{cases_lt, lt-ltb, le-ltb, le-leb}
use Rattle.std.proofs.lemmas.Bool.Decides.{nat_tests}
use Rattle.std.proofs.lemmas.Nat.{le-div, pow_pos}

-- a power of more is no less
pub power_more : (low high : ℕ) → low ≤ high → 2 ^ low ≤ 2 ^ high
power_more low high less = pow-le-pow_right (lit< tt) less

-- what fits fewer bits fits more
pub fits_more : (number low high : ℕ) → number < 2 ^ low → low ≤ high → number < 2 ^ high
fits_more number low high below less = lt_of_lt_of_le below (power_more low high less)

pub fits_more-ltb : (number low high : ℕ) → number < 2 ^ low → low ≤ high → leb low high ≡ ltb number (2 ^ high)
fits_more-ltb number low high below less = le-leb low high less ∙ sym (lt-ltb number (2 ^ high) (fits_more number low high below less))

-- a number fits the bits behind which nothing is left of it
pub nothing_left : (number bits : ℕ) → eqb (number / 2 ^ bits) 0 ≡ ltb number (2 ^ bits)
nothing_left number bits = elim (cases_lt number (2 ^ bits)) [
  | inl below ↦ ap (λ n. eqb n 0) (div-eq_of_lt below) ∙ sym (lt-ltb number (2 ^ bits) below)
  | inr above ↦
      let some : 1 ≤ number / 2 ^ bits = le-div 1 number (2 ^ bits) (pow_pos bits) (omega arith) in
      not_none (number / 2 ^ bits) some ∙ sym (le-ltb number (2 ^ bits) above)
]
  where
    not_none : (n : ℕ) → 1 ≤ n → eqb n 0 ≡ false
    not_none n some = grind (arith, nat_tests)
