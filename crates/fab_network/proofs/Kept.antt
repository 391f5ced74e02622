-- What is kept for points.
use Rattle.std.proofs.Common.{◌≡◌, ℕ, zero, suc, ◌<◌, true, List, [], ◌∷◌, length, refl, sym, ap, ◌∙◌, subst, inl, inr, arith, slice_set}
use Rattle.std.proofs.lemmas.Bool.{cases_eq}
use Rattle.fab_systems_laws.specs.Ternary.{no, yes, unknown, IsBelow}
use Rattle.fab_systems_laws.specs.Ternary.{Tern as PlainTern}
use Rattle.fab_systems_laws.proofs.Order.{below_equal}
use Rattle.fab_ternary.specs.declared.Tern.{Tern}
use Rattle.fab_ternary.specs.Terns.{plain_tern, is_known}
use Rattle.fab_network.specs.Passes.{kept_tern, AreRising}

pub kept_same : (terns : List Tern) (point : ℕ) (t : Tern) → point < length terns → kept_tern (slice_set terns point t) point ≡ plain_tern t
kept_same [] point t l = absurd (omega arith)
kept_same (u ∷ terns) zero t l = refl
kept_same (u ∷ terns) (suc point) t l = kept_same terns point t (omega arith)

pub kept_other : (terns : List Tern) (point : ℕ) (t : Tern) (other : ℕ) → (other ≡ point → ⊥) → kept_tern (slice_set terns point t) other ≡ kept_tern terns other
kept_other [] point t other apart = refl
kept_other (u ∷ terns) zero t zero apart = absurd (apart refl)
kept_other (u ∷ terns) zero t (suc other) apart = refl
kept_other (u ∷ terns) (suc point) t zero apart = refl
kept_other (u ∷ terns) (suc point) t (suc other) apart = kept_other terns point t other (λ e. apart (ap suc e))

pub rising_set : (terns : List Tern) (point : ℕ) (t : Tern) → point < length terns → kept_tern terns point ≡ unknown → AreRising terns (slice_set terns point t)
rising_set terns point t l is other =
    elim (cases_eq other point) [
      | inl e ↦ subst (λ (x : PlainTern). IsBelow x (kept_tern (slice_set terns point t) other)) (sym (ap (kept_tern terns) e ∙ is)) tt
      | inr n ↦ below_equal (kept_tern terns other) (kept_tern (slice_set terns point t) other) (sym (kept_other terns point t other n))
    ]

-- a known value is the same wherever it stands below
pub known_below : (t u : PlainTern) → is_known t ≡ true → IsBelow t u → t ≡ u
known_below no u h k = k
known_below yes u h k = k
known_below unknown u h k = cc
