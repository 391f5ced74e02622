-- Rounds in which all points of a set take what they show.
use Rattle.std.proofs.Common.{◌≡◌, ℕ, zero, suc, Bool, true, false, if◌then◌else◌, refl}

-- the assignment after k rounds
unfoldable pub rounds : {P X : Type 0} → (P → Bool) → (P → (P → X) → X) → (start : P → X) → ℕ → P → X
rounds has next start zero p = start p
rounds has next start (suc k) p = if has p then next p (rounds has next start k) else start p

module _ {P X : Type 0} (has : P → Bool) (next : P → (P → X) → X) (start : P → X) where
  pub round_none : (p : P) → rounds has next start zero p ≡ start p
  unfolding rounds
  round_none p = refl

  -- points outside the set stay as they are
  pub round_outside : (k : ℕ) (p : P) → has p ≡ false → rounds has next start k p ≡ start p
  unfolding rounds
  round_outside zero p h = refl
  round_outside (suc k) p h = rw h refl

  -- a point of the set takes what it shows after the round before
  pub round_inside : (k : ℕ) (p : P) → has p ≡ true → rounds has next start (suc k) p ≡ next p (rounds has next start k)
  unfolding rounds
  round_inside k p h = rw h refl
