-- What is decided of parts is decided of the whole.
use Rattle.std.proofs.Common.{◌≡◌, ◌⊎◌, ℕ, zero, suc, Bool, List, [], ◌∷◌, All, Contains, refl, sym, ◌∙◌, subst, arith, inl, inr}
use Rattle.std.specs.Bool.{Decides}
use Rattle.std.specs.Str.{bytes_eq}
use Rattle.std.proofs.lemmas.Bool.{cases_Bool, false≢true}
use Rattle.std.proofs.lemmas.List.Elements.{All-cons, All-head, All-nil, All-tail}
use Rattle.std.proofs.lemmas.Slice.Eq.{bytes_eq-Decides}

-- it holds, or it does not
abbrev pub IsDecided : Type 0 → Type 0
IsDecided P = P ⊎ (P → ⊥)

pub by_test : {P : Type 0} (b : Bool) → Decides b P → IsDecided P
by_test b decides = elim (cases_Bool b) [
  | inl holds ↦ inl (decides.0 holds)
  | inr fails ↦ inr (λ p. false≢true (sym fails ∙ decides.1 p))
]

pub both : {P Q : Type 0} → IsDecided P → IsDecided Q → IsDecided (P × Q)
both p q = elim p [
  | inr never ↦ inr (λ pair. never pair.0)
  | inl here ↦ elim q [ inl there ↦ inl (here, there) | inr never ↦ inr (λ pair. never pair.1) ]
]

pub one_of : {P Q : Type 0} → IsDecided P → IsDecided Q → IsDecided (P ⊎ Q)
one_of p q = elim p [
  | inl here ↦ inl (inl here)
  | inr never ↦
      elim q [
        | inl there ↦ inl (inr there)
        | inr nor ↦ inr (λ either. elim either [ inl here ↦ never here | inr there ↦ nor there ])
      ]
]

pub denied : {P : Type 0} → IsDecided P → IsDecided (P → ⊥)
denied p = elim p [ inl here ↦ inr (λ never. never here) | inr never ↦ inl never ]

-- the same under another statement
pub decided_as : {P Q : Type 0} → (P → Q) → (Q → P) → IsDecided P → IsDecided Q
decided_as to back p = elim p [ inl here ↦ inl (to here) | inr never ↦ inr (λ q. never (back q)) ]

pub bytes_decided : (a b : List ℕ) → IsDecided (a ≡ b)
bytes_decided a b = by_test (bytes_eq a b) (bytes_eq-Decides a b)

-- ---- lists

pub all_decided : {X : Type 0} (P : X → Type 0) → ((x : X) → IsDecided (P x)) → (xs : List X) → IsDecided (All P xs)
all_decided P each [] = inl (All-nil P)
all_decided P each (x ∷ xs) = elim (each x) [
  | inr never ↦ inr (λ all. never (All-head P x xs all))
  | inl here ↦
      elim (all_decided P each xs) [
        | inl rest ↦ inl (All-cons P x xs here rest)
        | inr never ↦ inr (λ all. never (All-tail P x xs all))
      ]
]

pub in_front : {X : Type 0} (x : X) (xs : List X) → Contains (x ∷ xs) x
in_front x xs = (0, omega arith, refl)

pub behind : {X : Type 0} (x y : X) (xs : List X) → Contains xs y → Contains (x ∷ xs) y
behind x y xs there = (suc there.0, omega (arith, there.1), there.2)

-- what is in a list is its first item, or behind that
pub first_or_behind : {X : Type 0} (x y : X) (xs : List X) → Contains (x ∷ xs) y → (x ≡ y) ⊎ Contains xs y
first_or_behind x y xs (zero, few, is) = inl is
first_or_behind x y xs (suc k, few, is) = inr (k, omega (arith, few), is)

-- some item of a list has a property
pub some_decided : {X : Type 0} (P : X → Type 0) → ((x : X) → IsDecided (P x)) → (xs : List X) → IsDecided ((x : X) × Contains xs x × P x)
some_decided P each [] = inr (λ found. absurd (omega (arith, found.1.1)))
some_decided P each (x ∷ xs) = elim (each x) [
  | inl here ↦ inl (x, in_front x xs, here)
  | inr never ↦
      elim (some_decided P each xs) [
        | inl found ↦ inl (found.0, behind x found.0 xs found.1, found.2)
        | inr nor ↦ inr (λ found. neither never nor found.0 found.1 found.2)
      ]
]
  where
    neither : (P x → ⊥) → ((y : _) × Contains xs y × P y → ⊥) → (y : _) → Contains (x ∷ xs) y → P y → ⊥
    neither never nor y there holds = elim (first_or_behind x y xs there) [
      | inl same ↦ never (subst P (sym same) holds)
      | inr later ↦ nor (y, later, holds)
    ]

pub listed_decided : {X : Type 0} → ((a b : X) → IsDecided (a ≡ b)) → (xs : List X) (x : X) → IsDecided (Contains xs x)
listed_decided same xs x =
    decided_as (λ found. subst (Contains xs) found.2 found.1) (λ there. (x, there, refl)) (some_decided (λ y. y ≡ x) (λ y. same y x) xs)
