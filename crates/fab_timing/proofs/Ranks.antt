-- Nodes from which no way leads back forever have ranks: one more than the greatest of those before.
use Rattle.std.proofs.Common.{◌≡◌, ℕ, suc, ◌≤◌, ◌<◌, max, List, [], ◌∷◌, Contains, refl, ap, ap₂, subst, inl, inr, arith}
use Rattle.fab_timing.specs.inner.Arrivals.{PlainSteps, IsGrounded, grounded, GroundedAreRanked}
use Rattle.fab_netlist.proofs.Members.{first_or_later, first_in, later_in}

-- the most that a function of the members of a list gives
abbrev most_of : {X : Type 0} (xs : List X) → ((x : X) → Contains xs x → ℕ) → ℕ
most_of [] f = 0
most_of (x ∷ xs) f = max (f x (first_in x xs x refl)) (most_of xs (λ y among. f y (later_in x xs y among)))

most_same : {X : Type 0} (xs : List X) (f g : (x : X) → Contains xs x → ℕ) → ((x : X) (a b : Contains xs x) → f x a ≡ g x b) → most_of xs f ≡ most_of xs g
most_same [] f g same = refl
most_same (x ∷ xs) f g same =
    ap₂ max (same x (first_in x xs x refl) (first_in x xs x refl))
    (most_same xs (λ y among. f y (later_in x xs y among)) (λ y among. g y (later_in x xs y among)) (λ y a b. same y (later_in x xs y a) (later_in x xs y b)))

most_above : {X : Type 0} (xs : List X) (f : (x : X) → Contains xs x → ℕ) → ((x : X) (a b : Contains xs x) → f x a ≡ f x b) → (x : X) (among : Contains xs x) → f x among ≤ most_of xs f
most_above [] f one x none = absurd (omega (arith, none.1))
most_above (y ∷ xs) f one x among =
    elim (first_or_later y xs x among) [
      | inl here ↦ (
          let same : f x among ≡ f y (first_in y xs y refl) = same_at x here among in
          omega (arith, same))
      | inr later ↦ (
          let rest = most_above xs (λ z there. f z (later_in y xs z there)) (λ z a b. one z (later_in y xs z a) (later_in y xs z b)) x later in
          let same = one x among (later_in y xs x later) in
          omega (arith, rest, same))
    ]
  where
    same_at : (z : _) → y ≡ z → (there : Contains (y ∷ xs) z) → f z there ≡ f y (first_in y xs y refl)
    same_at z is = subst (λ (w : _). (there : Contains (y ∷ xs) w) → f w there ≡ f y (first_in y xs y refl)) is (λ there. one y there (first_in y xs y refl))

module _ (steps : PlainSteps) where
  abbrev rank_of : {node : ℕ} → IsGrounded steps node → ℕ
  rank_of {node} (grounded each) = suc (most_of (steps.before node) (λ step among. rank_of (each step among)))

  rank_same : {node : ℕ} (a b : IsGrounded steps node) → rank_of a ≡ rank_of b
  rank_same {node} (grounded each) (grounded other) =
      ap suc (most_same (steps.before node) (λ step among. rank_of (each step among)) (λ step among. rank_of (other step among)) (λ step a b. rank_same (each step a) (other step b)))

  rank_falls : {node : ℕ} (g : IsGrounded steps node) (step : ℕ × ℕ) → Contains (steps.before node) step → (before : IsGrounded steps step.0) → rank_of before < rank_of g
  rank_falls {node} (grounded each) step among before =
      let least = most_above (steps.before node) (λ s there. rank_of (each s there)) (λ s a b. rank_same (each s a) (each s b)) step among in
      let same = rank_same before (each step among) in
      omega (arith, least, same)

pub grounded_are_ranked : GroundedAreRanked
grounded_are_ranked steps all = ((λ node. rank_of steps (all node)), (λ node step among. rank_falls steps (all node) step among (all step.0)))
