-- Laws of widths.
use Rattle.std.proofs.Common.{◌≡◌, ℕ, zero, suc, ◌+◌, ◌-◌, ◌^◌, ◌<◌, ◌≤◌, true, false, refl, inl, inr, arith, pow-suc, leb, nat_le, pow_mono}
use Rattle.std.proofs.lemmas.Bool.Decides.{nat_tests}
use Rattle.std.proofs.lemmas.Bool.{cases_Bool, cases_lt}
use Rattle.fab_bits.specs.Widths.{width_from, select_width}

pub lt_pow : (n : ℕ) → n < 2 ^ n
lt_pow zero = omega arith
lt_pow (suc n) = omega (arith, pow-suc 2 n, lt_pow n)

enough_from : (tries width n : ℕ) → n ≤ 2 ^ (width + tries) → n ≤ 2 ^ width_from tries width n
enough_from zero width n h = let e : width + 0 ≡ width = omega arith in rw e at h
enough_from (suc tries) width n h =
    elim (cases_Bool (leb n (2 ^ width))) [
      | inl t ↦ rw t (grind (arith, nat_tests))
      | inr f ↦ rw f (let e : width + suc tries ≡ width + 1 + tries = omega arith in enough_from tries (width + 1) n (rw e at h))
    ]

-- the width tells n things apart
pub select_enough : (n : ℕ) → n ≤ 2 ^ select_width n
unfolding select_width
select_enough n = enough_from n 0 n (let e : 0 + n ≡ n = omega arith in rw e (omega (arith, lt_pow n)))

-- a width that is too small gives way to the next
pub width_more : (width n : ℕ) → 2 ^ width < n → width_from (n - (width + 1)) (width + 1) n ≡ width_from (n - width) width n
width_more width n h =
    let low : width < 2 ^ width = lt_pow width in
    let e : n - width ≡ suc (n - (width + 1)) = omega arith in
    let f : nat_le n (2 ^ width) ≡ false = grind (arith, nat_tests) in
    rw (e, f) refl

pub width_done : (tries width n : ℕ) → n ≤ 2 ^ width → width ≡ width_from tries width n
width_done zero width n h = refl
width_done (suc tries) width n h = let t : nat_le n (2 ^ width) ≡ true = grind (arith, nat_tests) in rw t refl

pub small_power : (width : ℕ) → 2 ^ width < 2 ^ 33 → width ≤ 32
small_power width h = elim (cases_lt 32 width) [ inl l ↦ absurd (omega (arith, pow_mono {i = 33} {j = width} l)) | inr g ↦ g ]

-- a width is least where the one before it is too small
pub least_if : (width n : ℕ) → (0 < width → 2 ^ (width - 1) < n) → (other : ℕ) → n ≤ 2 ^ other → width ≤ other
least_if zero n below other enough = omega arith
least_if (suc width) n below other enough =
    elim (cases_lt other (suc width)) [
      | inl l ↦ (
          let high : 2 ^ other ≤ 2 ^ width = pow_mono {i = other} {j = width} (omega arith) in
          let last : suc width - 1 ≡ width = omega arith in
          let low : 2 ^ width < n = rw last at (below (omega arith)) in
          absurd (omega arith))
      | inr g ↦ g
    ]

-- two things need a bit
pub some_width : (width n : ℕ) → 2 ≤ n → n ≤ 2 ^ width → 0 < width
some_width zero n two enough = absurd (omega arith)
some_width (suc width) n two enough = omega arith
