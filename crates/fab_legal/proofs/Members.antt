-- Members of joined and mapped lists.
use Rattle.std.proofs.Common.{◌≡◌, ◌⊎◌, ℕ, ◌+◌, List, [], ◌∷◌, ◌++◌, map, take, Contains, refl, ap, ◌∙◌, inl, inr}
use Rattle.std.proofs.lemmas.List.{take_more}
use Rattle.fab_implementation.specs.fab_netlist.specs.Plain.{IsAt}
use Rattle.fab_implementation.specs.fab_netlist.proofs.Members.{in_none, first_or_later, first_in, later_in, in_left, in_right}

-- a member of joined lists is one of either
pub in_either : {X : Type 0} (xs ys : List X) (x : X) → Contains (xs ++ ys) x → Contains xs x ⊎ Contains ys x
in_either [] ys x here = inr here
in_either (z ∷ xs) ys x here =
    elim (first_or_later z (xs ++ ys) x here) [
      | inl same ↦ inl (first_in z xs x same)
      | inr later ↦ elim (in_either xs ys x later) [ inl left ↦ inl (later_in z xs x left) | inr right ↦ inr right ]
    ]

-- a member of a mapped list comes from a member
pub from_mapped : {X Y : Type 0} (f : X → Y) (xs : List X) (y : Y) → Contains (map f xs) y → (x : X) × Contains xs x × (f x ≡ y)
from_mapped f [] y here = absurd (in_none y here)
from_mapped f (z ∷ xs) y here =
    elim (first_or_later (f z) (map f xs) y here) [
      | inl same ↦ (z, first_in z xs z refl, same)
      | inr later ↦ (let found = from_mapped f xs y later in (found.0, later_in z xs found.0 found.1, found.2))
    ]

-- the members of a list with one more item
pub in_pushed : {X : Type 0} (xs : List X) (y x : X) → Contains (xs ++ y ∷ []) x → Contains xs x ⊎ (y ≡ x)
in_pushed xs y x here =
    elim (in_either xs (y ∷ []) x here) [
      | inl left ↦ inl left
      | inr right ↦ elim (first_or_later y [] x right) [ inl same ↦ inr same | inr none ↦ absurd (in_none x none) ]
    ]

pub still_in : {X : Type 0} (xs : List X) (y x : X) → Contains xs x → Contains (xs ++ y ∷ []) x
still_in xs y x here = in_left xs (y ∷ []) x here

pub last_in : {X : Type 0} (xs : List X) (y : X) → Contains (xs ++ y ∷ []) y
last_in xs y = in_right xs (y ∷ []) y (first_in y [] y refl)

-- the first items, and one more
pub taken_more : {X : Type 0} (xs : List X) (n : ℕ) (x : X) → IsAt xs n x → take (n + 1) xs ≡ take n xs ++ x ∷ []
taken_more xs n x at = take_more xs n x at.0 ∙ ap (λ y. take n xs ++ y ∷ []) at.1

pub in_taken : {X : Type 0} (xs : List X) (n : ℕ) (y x : X) → IsAt xs n y → Contains (take (n + 1) xs) x → Contains (take n xs) x ⊎ (y ≡ x)
in_taken xs n y x at here = in_pushed (take n xs) y x (rw (taken_more xs n y at) at here)

pub stays_taken : {X : Type 0} (xs : List X) (n : ℕ) (y x : X) → IsAt xs n y → Contains (take n xs) x → Contains (take (n + 1) xs) x
stays_taken xs n y x at here = rw (taken_more xs n y at) (still_in (take n xs) y x here)

pub last_taken : {X : Type 0} (xs : List X) (n : ℕ) (y : X) → IsAt xs n y → Contains (take (n + 1) xs) y
last_taken xs n y at = rw (taken_more xs n y at) (last_in (take n xs) y)

-- a member is an item at a place
pub place_in : {X : Type 0} (xs : List X) (x : X) → Contains xs x → (place : ℕ) × IsAt xs place x
place_in xs x here = (here.0, (here.1, here.2))
