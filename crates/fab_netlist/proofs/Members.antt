-- Members of lists, and tests of all of them.
use Rattle.std.proofs.Common.{◌≡◌, ◌⊎◌, ℕ, zero, suc, Bool, true, false, ◌&&◌, ◌||◌, List, [], ◌∷◌, ◌++◌, map, Contains, nat_eq, refl, ap, ◌∙◌, inl, inr, arith, eq-eqb, eqb-true}
use Rattle.std.specs.List.{list_any}
use Rattle.std.proofs.lemmas.Bool.{false≢true, or_cases}
use Rattle.fab_netlist.specs.Plain.{IsAt}

-- nothing stands in an empty list
pub in_none : {X : Type 0} (x : X) → Contains [] x → ⊥
in_none x (place, within, same) = omega (arith, within)

-- a member is the first item or stands behind it
pub first_or_later : {X : Type 0} (y : X) (ys : List X) (x : X) → Contains (y ∷ ys) x → (y ≡ x) ⊎ Contains ys x
first_or_later y ys x (zero, within, same) = inl same
first_or_later y ys x (suc place, within, same) = inr (place, omega (arith, within), same)

-- the first item is a member
pub first_in : {X : Type 0} (y : X) (ys : List X) (x : X) → y ≡ x → Contains (y ∷ ys) x
first_in y ys x same = (zero, omega arith, same)

-- what stands behind it is a member
pub later_in : {X : Type 0} (y : X) (ys : List X) (x : X) → Contains ys x → Contains (y ∷ ys) x
later_in y ys x (place, within, same) = (suc place, omega (arith, within), same)

-- what has a place is a member
pub at_in : {X : Type 0} (xs : List X) (place : ℕ) (x : X) → IsAt xs place x → Contains xs x
at_in xs place x at = (place, at.0, at.1)

-- mapped members
pub mapped_in : {X Y : Type 0} (f : X → Y) (xs : List X) (x : X) → Contains xs x → Contains (map f xs) (f x)
mapped_in f [] x here = absurd (in_none x here)
mapped_in f (y ∷ ys) x here =
    elim (first_or_later y ys x here) [
      | inl same ↦ first_in (f y) (map f ys) (f x) (ap f same)
      | inr later ↦ later_in (f y) (map f ys) (f x) (mapped_in f ys x later)
    ]

-- members of the left list
pub in_left : {X : Type 0} (xs ys : List X) (x : X) → Contains xs x → Contains (xs ++ ys) x
in_left [] ys x here = absurd (in_none x here)
in_left (z ∷ xs) ys x here =
    elim (first_or_later z xs x here) [
      | inl same ↦ first_in z (xs ++ ys) x same
      | inr later ↦ later_in z (xs ++ ys) x (in_left xs ys x later)
    ]

-- members of the right list
pub in_right : {X : Type 0} (xs ys : List X) (x : X) → Contains ys x → Contains (xs ++ ys) x
in_right [] ys x here = here
in_right (z ∷ xs) ys x here = later_in z (xs ++ ys) x (in_right xs ys x here)

-- one true side is enough
pub either_true : (a b : Bool) → (a ≡ true) ⊎ (b ≡ true) → (a || b) ≡ true
either_true true b given = refl
either_true false b (inl given) = absurd (false≢true given)
either_true false b (inr given) = given

-- two true sides
pub both_true : (a b : Bool) → a ≡ true → b ≡ true → (a && b) ≡ true
both_true true b first second = second
both_true false b first second = first

-- both sides of what is true
pub parts_true : (a b : Bool) → (a && b) ≡ true → (a ≡ true) × (b ≡ true)
parts_true true b given = (refl, given)
parts_true false b given = absurd (false≢true given)

-- a member that passes makes the test of any pass
pub any_by : {X : Type 0} (test : X → Bool) (xs : List X) (x : X) → Contains xs x → test x ≡ true → list_any test xs ≡ true
any_by test [] x here passes = absurd (in_none x here)
any_by test (y ∷ ys) x here passes =
    elim (first_or_later y ys x here) [
      | inl same ↦ either_true (test y) (list_any test ys) (inl (ap test same ∙ passes))
      | inr later ↦ either_true (test y) (list_any test ys) (inr (any_by test ys x later passes))
    ]

-- where the test of any passes, there is a member that passes
pub any_gives : {X : Type 0} (test : X → Bool) (xs : List X) → list_any test xs ≡ true → (x : X) × Contains xs x × (test x ≡ true)
any_gives test [] passes = absurd (false≢true passes)
any_gives test (y ∷ ys) passes =
    elim (or_cases (test y) (list_any test ys) passes) [
      | inl here ↦ (y, first_in y ys y refl, here)
      | inr later ↦ (let found = any_gives test ys later in (found.0, later_in y ys found.0 found.1, found.2))
    ]

-- a member is found
pub number_any : (xs : List ℕ) (x : ℕ) → Contains xs x → list_any (λ y. nat_eq y x) xs ≡ true
number_any xs x here = any_by (λ y. nat_eq y x) xs x here (eq-eqb x x refl)

-- what is found is a member
pub any_number : (xs : List ℕ) (x : ℕ) → list_any (λ y. nat_eq y x) xs ≡ true → Contains xs x
any_number [] x passes = absurd (false≢true passes)
any_number (y ∷ ys) x passes =
    elim (or_cases (nat_eq y x) (list_any (λ z. nat_eq z x) ys) passes) [
      | inl here ↦ first_in y ys x (eqb-true y x here)
      | inr later ↦ later_in y ys x (any_number ys x later)
    ]
