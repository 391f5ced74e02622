-- One of several facts, each of one size.
use Rattle.std.proofs.Common.{◌≤◌, ◌<◌, ℕ, zero, suc, ◌+◌, inl, inr, subst, arith}
use Rattle.std.proofs.lemmas.Bool.{cases_eq}

module _ (P : ℕ → Type 0) where
  -- so many sizes from this one on
  abbrev pub All : (first count : ℕ) → Type 0
  All first zero = Unit {0}
  All first (suc count) = P first × All (first + 1) count

  pub one : (first count size : ℕ) → first ≤ size → size < first + count → All first count → P size
  one first zero size low high all = absurd (omega (arith, low, high))
  one first (suc count) size low high all =
      elim (cases_eq first size) [
        | inl same ↦ subst P same all.0
        | inr other ↦ one (first + 1) count size (omega (arith, low)) (omega (arith, high)) all.1
      ]
