-- The equations of a ranked set have a solution, and no second one.
use Rattle.std.proofs.Common.{◌≡◌, ℕ, zero, suc, ◌<◌, ◌≤◌, Bool, true, sym, ◌∙◌, inl, inr, arith}
use Rattle.fab_systems_laws.specs.System.{AgreeOn, ReadsOnly, IsSettledOn, IsSettledFrom, IsRanked}
use Rattle.fab_systems_laws.proofs.Rounds.{rounds, round_inside, round_outside}

module _ {P X : Type 0} (has given : P → Bool) (reads : P → P → Bool) (rank : P → ℕ) (ranks : ℕ) (next : P → (P → X) → X)
    (ranked : IsRanked has given reads rank ranks) (only : ReadsOnly has reads next) where
  -- from round m on no point of lower rank changes
  round_stays : (old : P → X) (m : ℕ) (p : P) (k l : ℕ) → has p ≡ true → rank p < m → m ≤ k → m ≤ l → rounds has next old k p ≡ rounds has next old l p
  round_stays old zero p k l h r a b = absurd (omega arith)
  round_stays old (suc m) p zero l h r a b = absurd (omega arith)
  round_stays old (suc m) p (suc k) zero h r a b = absurd (omega arith)
  round_stays old (suc m) p (suc k) (suc l) h r a b =
      round_inside has next old k p h
      ∙ only p (rounds has next old k) (rounds has next old l) h (λ q read.
      elim (ranked.lower p q h read) [
        | inl g ↦ round_outside has next old k q (ranked.apart q g) ∙ sym (round_outside has next old l q (ranked.apart q g))
        | inr d ↦ round_stays old m q k l d.0 (omega (arith, d.1)) (omega arith) (omega arith)
      ])
      ∙ sym (round_inside has next old l p h)

  -- as many rounds as there are ranks settle the set
  pub settled_by_rounds : (old : P → X) → IsSettledFrom has next old (rounds has next old ranks)
  settled_by_rounds old = record {
    settled = λ p h. round_stays old ranks p ranks (suc ranks) h (ranked.bound p h) (omega arith) (omega arith) ∙ round_inside has next old ranks p h;
    others = round_outside has next old ranks;
  }

  -- a point shows what it has in a settled assignment, where given points and those of lower rank have theirs
  pub shows_settled : (a settled : P → X) → IsSettledOn has next settled → AgreeOn given a settled →
      (p : P) → has p ≡ true → ((q : P) → has q ≡ true → rank q < rank p → a q ≡ settled q) → next p a ≡ settled p
  shows_settled a settled is g p h below =
      only p a settled h (λ q read. elim (ranked.lower p q h read) [ inl e ↦ g q e | inr d ↦ below q d.0 d.1 ])
      ∙ sym (is p h)

  -- by induction on m: no point of rank below m tells the two apart
  agree_below : (a b : P → X) → IsSettledOn has next a → IsSettledOn has next b → AgreeOn given a b →
      (m : ℕ) (p : P) → has p ≡ true → rank p < m → a p ≡ b p
  agree_below a b sa sb g zero p h r = absurd (omega arith)
  agree_below a b sa sb g (suc m) p h r = sa p h ∙ shows_settled a b sb g p h (λ q hq below. agree_below a b sa sb g m q hq (omega arith))

  -- the given points decide the settled assignment
  pub settled_agree : (a b : P → X) → IsSettledOn has next a → IsSettledOn has next b → AgreeOn given a b → AgreeOn has a b
  settled_agree a b sa sb g p h = agree_below a b sa sb g ranks p h (ranked.bound p h)
