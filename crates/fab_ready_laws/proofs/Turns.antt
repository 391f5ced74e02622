-- Lists whose items are judged one after the other: all are right, or one is the first that is wrong.
use Rattle.std.proofs.Common.{◌≡◌, ◌<◌, ◌≤◌, ◌+◌, ◌⊎◌, ℕ, zero, suc, List, [], ◌∷◌, length, take, refl, subst, arith, inl, inr}
use Rattle.fab_netlist.specs.Plain.{IsAt}
use Rattle.fab_legal.specs.Turns.{FirstAreRight, AreRight, IsFirstWrong}
use Rattle.fab_legal.proofs.Lists.{none_right, right_more}
use Rattle.fab_ready_laws.proofs.Decisions.{IsDecided}

-- an item of a list stands at each place
pub item_at : {X : Type 0} (xs : List X) (n : ℕ) → n < length xs → (x : X) × IsAt xs n x
item_at [] n below = absurd (omega (arith, below))
item_at (x ∷ xs) zero below = (x, (below, refl))
item_at (x ∷ xs) (suc n) below = let found = item_at xs n (omega (arith, below)) in (found.0, (below, found.1.1))

module _ {X : Type 0} (IsRight IsWrong : List X → X → Type 0) (xs : List X) where
  -- an item is wrong, and all before it are right
  pub record HasWrong : Type 0 where
    pub place : ℕ
    pub item : X
    pub is_at : IsAt xs place item
    pub before : FirstAreRight IsRight xs place
    pub wrong : IsWrong (take place xs) item

  module _ (judged : (place : ℕ) (x : X) → IsAt xs place x → IsRight (take place xs) x ⊎ IsWrong (take place xs) x) where
    first_judged : (n : ℕ) → n ≤ length xs → FirstAreRight IsRight xs n ⊎ HasWrong
    first_judged zero few = inl (none_right IsRight xs)
    first_judged (suc n) few = elim (first_judged n (omega (arith, few))) [
      | inr wrong ↦ inr wrong
      | inl before ↦ next before (item_at xs n (omega (arith, few)))
    ]
      where
        next : FirstAreRight IsRight xs n → (found : (x : X) × IsAt xs n x) → FirstAreRight IsRight xs (suc n) ⊎ HasWrong
        next before found = elim (judged n found.0 found.1) [
          | inr wrong ↦ inr (record { place = n; item = found.0; is_at = found.1; before = before; wrong = wrong })
          | inl right ↦ (
              let one_more : n + 1 ≡ suc n = omega arith in
              inl (subst (λ (m : ℕ). FirstAreRight IsRight xs m) one_more (right_more IsRight xs n found.0 before found.1 right)))
        ]

    pub right_or_wrong : AreRight IsRight xs ⊎ HasWrong
    right_or_wrong = first_judged (length xs) (omega arith)

-- where each item is right or not, there is a first wrong one or none
pub right_or_first_wrong : {X : Type 0} (IsRight : List X → X → Type 0) (xs : List X)
    → ((place : ℕ) (x : X) → IsAt xs place x → IsDecided (IsRight (take place xs) x)) → AreRight IsRight xs ⊎ ((x : X) × IsFirstWrong IsRight xs x)
right_or_first_wrong {X} IsRight xs decided = elim (right_or_wrong IsRight (λ before x. IsRight before x → ⊥) xs decided) [
  | inl right ↦ inl right
  | inr has ↦ inr (has.item, record { place = has.place; is_at = has.is_at; wrong = has.wrong; before = has.before })
]
