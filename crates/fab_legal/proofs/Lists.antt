-- Lists whose items are judged one after another.
use Rattle.std.proofs.Common.{◌≡◌, ◌⊎◌, ℕ, zero, suc, ◌+◌, ◌<◌, ◌≤◌, List, [], ◌∷◌, map, length, get_or, take, refl, sym, ◌∙◌, subst, inl, inr, arith}
use Rattle.std.proofs.lemmas.List.{take-map, length-map, get_or_default}
use Rattle.std.proofs.lemmas.Bool.{cases_lt}
use Rattle.fab_implementation.specs.fab_netlist.specs.Plain.{IsAt}
use Rattle.fab_implementation.specs.fab_netlist.proofs.Counts.{at_mapped}
use Rattle.fab_legal.specs.Turns.{FirstAreRight, AreRight, IsFirstWrongAt, IsFirstWrong}

-- what was read at a place stands there
pub at_read : {X : Type 0} (xs : List X) (place : ℕ) (x : X) → place < length xs → x ≡ get_or xs place x → IsAt xs place x
at_read xs place x inside read = (inside, sym read)

-- one item stands at a place
pub same_at : {X : Type 0} (xs : List X) (place : ℕ) (x y : X) → IsAt xs place x → IsAt xs place y → x ≡ y
same_at xs place x y first second = sym first.1 ∙ get_or_default xs place x y first.0 ∙ second.1

pub cases_below : (a b : ℕ) → a < b + 1 → (a < b) ⊎ (a ≡ b)
cases_below a b h = elim (cases_lt a b) [ inl less ↦ inl less | inr other ↦ inr (omega arith) ]

-- no item, no wrong item
pub none_right : {X : Type 0} (IsRight : List X → X → Type 0) (xs : List X) → FirstAreRight IsRight xs 0
none_right IsRight xs = λ place x below. absurd (omega (arith, below))

-- one more item
pub right_more : {X : Type 0} (IsRight : List X → X → Type 0) (xs : List X) (n : ℕ) (x : X) →
    FirstAreRight IsRight xs n → IsAt xs n x → IsRight (take n xs) x → FirstAreRight IsRight xs (n + 1)
right_more {X} IsRight xs n x before at right = λ place y below there.
    elim (cases_below place n (omega (arith, below))) [
      | inl less ↦ before place y less there
      | inr same ↦ (
          let here : IsAt xs n y = subst (λ (m : ℕ). IsAt xs m y) same there in
          let equal : x ≡ y = same_at xs n x y at here in
          subst (λ (m : ℕ). IsRight (take m xs) y) (sym same) (subst (λ (z : X). IsRight (take n xs) z) equal right))
    ]

-- a wrong item is the first
pub wrong_here : {X : Type 0} (IsRight : List X → X → Type 0) (xs : List X) (n : ℕ) (x : X) →
    FirstAreRight IsRight xs n → IsAt xs n x → (IsRight (take n xs) x → ⊥) → IsFirstWrongAt IsRight xs n
wrong_here {X} IsRight xs n x before at wrong = record {
  inside = at.0;
  wrong = λ y there right. wrong (subst (λ (z : X). IsRight (take n xs) z) (same_at xs n y x there at) right);
  before = before;
}

-- the item that a list has at a place
pub at_default : {X : Type 0} (xs : List X) (n : ℕ) (d : X) → n < length xs → IsAt xs n (get_or xs n d)
at_default xs n d inside = (inside, get_or_default xs n (get_or xs n d) d inside)

-- an item of a mapped list comes from one at its place
pub at_from_mapped : {X Y : Type 0} (f : X → Y) (xs : List X) (n : ℕ) (y : Y) → IsAt (map f xs) n y → (x : X) × IsAt xs n x × (f x ≡ y)
at_from_mapped f [] n y at = absurd (omega (arith, at.0))
at_from_mapped f (x ∷ xs) zero y at = (x, (omega arith, refl), at.1)
at_from_mapped f (x ∷ xs) (suc n) y at = let found = at_from_mapped f xs n y (omega (arith, at.0), at.1) in (found.0, (omega (arith, found.1.0), found.1.1), found.2)

module _ {X Y : Type 0} (f : X → Y) (R : List Y → Y → Type 0) (Q : List X → X → Type 0) (xs : List X) where
  -- what is right of a mapped list is right of the list
  pub right_from_mapped : (n : ℕ) → ((before : List X) (x : X) → R (map f before) (f x) → Q before x) → FirstAreRight R (map f xs) n → FirstAreRight Q xs n
  right_from_mapped n turned right = λ place x below at.
      turned (take place xs) x (subst (λ (before : List Y). R before (f x)) (take-map f place xs) (right place (f x) below (at_mapped f xs place x at)))

  pub wrong_from_mapped : (place : ℕ) → ((before : List X) (x : X) → R (map f before) (f x) → Q before x) → ((before : List X) (x : X) → Q before x → R (map f before) (f x)) →
      IsFirstWrongAt R (map f xs) place → IsFirstWrongAt Q xs place
  wrong_from_mapped place turned back first = record {
    inside = omega (arith, first.inside, length-map xs f);
    wrong = λ x at is. first.wrong (f x) (at_mapped f xs place x at) (subst (λ (before : List Y). R before (f x)) (sym (take-map f place xs)) (back (take place xs) x is));
    before = right_from_mapped place turned first.before;
  }

-- the first wrong item from its place
pub first_wrong : {X : Type 0} (IsRight : List X → X → Type 0) (xs : List X) (n : ℕ) (x : X) → IsFirstWrongAt IsRight xs n → IsAt xs n x → IsFirstWrong IsRight xs x
first_wrong IsRight xs n x first at = record { place = n; is_at = at; wrong = first.wrong x at; before = first.before }

-- a list with a wrong item is not right
pub wrong_not_right : {X : Type 0} (IsRight : List X → X → Type 0) (xs : List X) (x : X) → IsFirstWrong IsRight xs x → AreRight IsRight xs → ⊥
wrong_not_right IsRight xs x first right = first.wrong (right first.place x first.is_at.0 first.is_at)

-- all items of a list whose first items are right
pub all_right : {X : Type 0} (IsRight : List X → X → Type 0) (xs : List X) (n : ℕ) → length xs ≤ n → FirstAreRight IsRight xs n → AreRight IsRight xs
all_right IsRight xs n long right = λ place x below at. right place x (omega (arith, below, long)) at
