-- The least number with a property, and marks of the numbers that have one.
use Rattle.std.proofs.Common.{◌≡◌, ◌<◌, ◌≤◌, ◌⊎◌, ◌↔◌, ℕ, zero, suc, Bool, true, false, List, [], ◌∷◌, length, get_or, refl, ap, subst, arith, inl, inr}
use Rattle.std.proofs.lemmas.Bool.{cases_lt, false≢true}
use Rattle.fab_ready_laws.proofs.Decisions.{IsDecided}

pub below_decided : (a b : ℕ) → IsDecided (a < b)
below_decided a b = elim (cases_lt a b) [ inl less ↦ inl less | inr past ↦ inr (λ less. omega (arith, less, past)) ]

pub upto_decided : (a b : ℕ) → IsDecided (a ≤ b)
upto_decided a b = elim (cases_lt b a) [ inl past ↦ inr (λ less. omega (arith, less, past)) | inr less ↦ inl less ]

module _ (P : ℕ → Type 0) where
  -- it has the property, and no lesser one does
  abbrev pub IsLeastOf : ℕ → Type 0
  IsLeastOf n = P n × ((before : ℕ) → before < n → P before → ⊥)

  pub least_below : ((n : ℕ) → IsDecided (P n)) → (bound : ℕ) → ((n : ℕ) × (n < bound) × IsLeastOf n) ⊎ ((n : ℕ) → n < bound → P n → ⊥)
  least_below each zero = inr (λ n less holds. omega (arith, less))
  least_below each (suc bound) = elim (least_below each bound) [
    | inl found ↦ inl (found.0, omega (arith, found.1), found.2)
    | inr none ↦
        elim (each bound) [
          | inl here ↦ inl (bound, omega arith, (here, none))
          | inr never ↦ inr (λ n less holds. none_at none never n less holds)
        ]
  ]
    where
      none_at : ((n : ℕ) → n < bound → P n → ⊥) → (P bound → ⊥) → (n : ℕ) → n < suc bound → P n → ⊥
      none_at none never n less holds = elim (cases_lt n bound) [
        | inl lower ↦ none n lower holds
        | inr past ↦ (
            let same : n ≡ bound = omega (arith, less, past) in
            never (subst P same holds))
      ]

-- ---- marks

bit : {P : Type 0} → IsDecided P → (mark : Bool) × ((mark ≡ true) ↔ P)
bit (inl holds) = (true, ((λ is. holds), (λ p. refl)))
bit (inr never) = (false, ((λ is. absurd (false≢true is)), (λ p. absurd (never p))))

abbrev Marks : (P : ℕ → Type 0) → (marks : List Bool) → Type 0
Marks P marks = (place : ℕ) → (get_or marks place false ≡ true) ↔ P place

no_marks : (P : ℕ → Type 0) → ((place : ℕ) → P place → place < 0) → Marks P []
no_marks P within zero = ((λ is. absurd (false≢true is)), (λ holds. absurd (omega (arith, within zero holds))))
no_marks P within (suc place) = ((λ is. absurd (false≢true is)), (λ holds. absurd (omega (arith, within (suc place) holds))))

mark_more : (P : ℕ → Type 0) (mark : Bool) (marks : List Bool) → ((mark ≡ true) ↔ P zero) → Marks (λ place. P (suc place)) marks → Marks P (mark ∷ marks)
mark_more P mark marks first rest zero = first
mark_more P mark marks first rest (suc place) = rest place

-- marks of the numbers that have a property, where all of them are below a count
pub marks_of : (P : ℕ → Type 0) → ((place : ℕ) → IsDecided (P place)) → (count : ℕ) → ((place : ℕ) → P place → place < count)
    → (marks : List Bool) × (length marks ≡ count) × ((place : ℕ) → (get_or marks place false ≡ true) ↔ P place)
marks_of P each zero within = ([], refl, no_marks P within)
marks_of P each (suc count) within =
    let first = bit (each zero) in
    let rest = marks_of (λ place. P (suc place)) (λ place. each (suc place)) count (λ place holds. omega (arith, within (suc place) holds)) in
    (first.0 ∷ rest.0, ap suc rest.1, mark_more P first.0 rest.0 first.1 rest.2)
