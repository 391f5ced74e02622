-- A ranked set is known rank by rank.
use Rattle.std.proofs.Common.{◌≡◌, ℕ, zero, suc, ◌<◌, Bool, true, sym, ap, ◌∙◌, inl, inr, arith}
use Rattle.fab_systems_laws.specs.System.{IsSettledOn, IsRanked}
use Rattle.fab_systems_laws.specs.Ternary.{Tern, known}

module _ {P : Type 0} (has given : P → Bool) (reads : P → P → Bool) (rank : P → ℕ) (ranks : ℕ) (show : P → (P → Tern) → Tern) (next : P → (P → Bool) → Bool)
    (t : P → Tern) (a : P → Bool) (ranked_here : IsRanked has given reads rank ranks) (at_given : (p : P) → given p ≡ true → t p ≡ known (a p))
    (shows : (p : P) → has p ≡ true → ((q : P) → reads p q ≡ true → t q ≡ known (a q)) → show p t ≡ known (next p a))
    (solves : IsSettledOn has show t) (settled : IsSettledOn has next a) where
  known_below : (m : ℕ) (p : P) → has p ≡ true → rank p < m → t p ≡ known (a p)
  known_below zero p h r = absurd (omega (arith, r))
  known_below (suc m) p h r =
      solves p h
      ∙ shows p h (λ q read.
      elim (ranked_here.lower p q h read) [
        | inl g ↦ at_given q g
        | inr d ↦ known_below m q d.0 (omega (arith, d.1, r))
      ])
      ∙ ap known (sym (settled p h))

  pub all_known : (p : P) → has p ≡ true → t p ≡ known (a p)
  all_known p h = known_below (suc (rank p)) p h (omega arith)
