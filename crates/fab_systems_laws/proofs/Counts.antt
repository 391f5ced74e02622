-- Ranks counted along a list of the points.
use Rattle.std.proofs.Common.{◌≡◌, ℕ, zero, suc, ◌+◌, ◌<◌, ◌≤◌, Bool, List, [], ◌∷◌, length, Contains, if◌then◌else◌, nat_lt, ap, inl, inr, arith}
use Rattle.fab_systems_laws.specs.System.{IsRanked, AreListed}

-- the length of the part of the list that ranks below k
abbrev pub below : {P : Type 0} → (P → ℕ) → ℕ → List P → ℕ
below rank k [] = 0
below rank k (p ∷ points) = (if nat_lt (rank p) k then 1 else 0) + below rank k points

one_at_most : (x k : ℕ) → (if nat_lt x k then 1 else 0) ≤ 1
one_at_most x k = grind arith

none_above : (x k : ℕ) → k ≤ x → (if nat_lt x k then 1 else 0) ≤ 0
none_above x k h = grind arith

one_grows : (x j k : ℕ) → j ≤ k → (if nat_lt x j then 1 else 0) ≤ (if nat_lt x k then 1 else 0)
one_grows x j k h = grind arith

one_more : (x j k : ℕ) → j ≤ x → x < k → suc (if nat_lt x j then 1 else 0) ≤ (if nat_lt x k then 1 else 0)
one_more x j k h l = grind arith

module _ {P : Type 0} (rank : P → ℕ) where
  below_length : (k : ℕ) (points : List P) → below rank k points ≤ length points
  below_length k [] = omega arith
  below_length k (p ∷ points) = omega (arith, one_at_most (rank p) k, below_length k points)

  below_grows : (j k : ℕ) (points : List P) → j ≤ k → below rank j points ≤ below rank k points
  below_grows j k [] h = omega arith
  below_grows j k (p ∷ points) h = omega (arith, one_grows (rank p) j k h, below_grows j k points h)

  -- a listed point between two ranks makes the counts differ
  below_more : (j k : ℕ) (points : List P) (q : P) → Contains points q → j ≤ rank q → rank q < k → below rank j points < below rank k points
  below_more j k [] q c h l = absurd (omega (arith, c.1))
  below_more j k (p ∷ points) q (zero, b, e) h l =
      let r : rank p ≡ rank q = ap rank e in
      omega (arith, one_more (rank p) j k (omega (arith, r)) (omega (arith, r)), below_grows j k points (omega arith))
  below_more j k (p ∷ points) q (suc n, b, e) h l = omega (arith, one_grows (rank p) j k (omega arith), below_more j k points q (n, omega (arith, b), e) h l)

  -- a listed point of rank k or more is not counted
  below_less : (k : ℕ) (points : List P) (q : P) → Contains points q → k ≤ rank q → below rank k points < length points
  below_less k [] q c h = absurd (omega (arith, c.1))
  below_less k (p ∷ points) q (zero, b, e) h =
      let r : rank p ≡ rank q = ap rank e in
      omega (arith, none_above (rank p) k (omega (arith, r)), below_length k points)
  below_less k (p ∷ points) q (suc n, b, e) h = omega (arith, one_at_most (rank p) k, below_less k points q (n, omega (arith, b), e) h)

-- a point's new rank is the number of listed points below it
pub rank_by_count : {P : Type 0} (has given : P → Bool) (reads : P → P → Bool) (rank : P → ℕ) (ranks : ℕ) (points : List P) →
    IsRanked has given reads rank ranks → AreListed has points →
    IsRanked has given reads (λ p. below rank (rank p) points) (length points)
rank_by_count has given reads rank ranks points ranked listed = record {
  bound = λ p h. below_less rank (rank p) points p (listed p h) (omega arith);
  apart = ranked.apart;
  lower = λ p q h r.
      elim (ranked.lower p q h r) [
        | inl g ↦ inl g
        | inr d ↦ inr (d.0, below_more rank (rank q) (rank p) points q (listed q d.0) (omega arith) d.1)
      ];
}
