-- What stands in lists, by places.
use Rattle.std.proofs.Common.{◌≡◌, ◌⊎◌, ℕ, zero, suc, ◌+◌, List, [], ◌∷◌, ◌++◌, length, map, Option, None, Some, refl, ap, inl, inr, subst, sym, arith}
use Rattle.std.specs.List.{slice_get}
use Rattle.std.specs.Prelude.{IfSome, IsPermutation}
use Rattle.std.proofs.lemmas.List.Sorted.{Contains-permutation, IsPermutation-sym}
use Rattle.std.proofs.lemmas.Option.{get_or_from_slice_get, slice_get_read, slice_get_within}
use Rattle.fab_phases.specs.Lists.{Each, HasOne}

pub get_left : {X : Type 0} (xs ys : List X) (k : ℕ) (x : X) → slice_get xs k ≡ Some x → slice_get (xs ++ ys) k ≡ Some x
get_left [] ys k x e = cc
get_left (z ∷ xs) ys zero x e = e
get_left (z ∷ xs) ys (suc k) x e = get_left xs ys k x e

pub get_right : {X : Type 0} (xs ys : List X) (k : ℕ) (x : X) → slice_get ys k ≡ Some x → slice_get (xs ++ ys) (length xs + k) ≡ Some x
get_right [] ys k x e = let n : 0 + k ≡ k = omega arith in subst (λ (j : ℕ). slice_get ys j ≡ Some x) (sym n) e
get_right (z ∷ xs) ys k x e =
    let n : suc (length xs) + k ≡ suc (length xs + k) = omega arith in
    subst (λ (j : ℕ). slice_get (z ∷ (xs ++ ys)) j ≡ Some x) (sym n) (get_right xs ys k x e)

-- an item of two lists is one of the first or one of the second
pub get_parts : {X : Type 0} (xs ys : List X) (k : ℕ) (x : X) → slice_get (xs ++ ys) k ≡ Some x →
    (slice_get xs k ≡ Some x) ⊎ ((j : ℕ) × (k ≡ length xs + j) × (slice_get ys j ≡ Some x))
get_parts [] ys k x e = inr (k, omega arith, e)
get_parts (z ∷ xs) ys zero x e = inl e
get_parts (z ∷ xs) ys (suc k) x e =
    elim (get_parts xs ys k x e) [
      | inl h ↦ inl h
      | inr r ↦ let e' : k ≡ length xs + r.0 = r.1 in inr (r.0, omega arith, r.2)
    ]

-- the only item of a list
only : {X : Type 0} (x y : X) (k : ℕ) → slice_get (x ∷ []) k ≡ Some y → x ≡ y
only x y zero e = cc
only x y (suc k) e = cc

-- ---- each

pub each_left : {X : Type 0} (P : X → Type 0) (xs ys : List X) → Each (xs ++ ys) P → Each xs P
each_left P xs ys each k x e = each k x (get_left xs ys k x e)

pub each_right : {X : Type 0} (P : X → Type 0) (xs ys : List X) → Each (xs ++ ys) P → Each ys P
each_right P xs ys each k x e = each (length xs + k) x (get_right xs ys k x e)

pub each_both : {X : Type 0} (P : X → Type 0) (xs ys : List X) → Each xs P → Each ys P → Each (xs ++ ys) P
each_both P xs ys these those k x e = elim (get_parts xs ys k x e) [ inl h ↦ these k x h | inr r ↦ those r.0 x r.2 ]

pub each_one : {X : Type 0} (P : X → Type 0) (x : X) → P x → Each (x ∷ []) P
each_one P x here k y e = subst P (only x y k e) here

pub each_more : {X : Type 0} (P : X → Type 0) (xs : List X) (x : X) → Each xs P → P x → Each (xs ++ x ∷ []) P
each_more P xs x each here = each_both P xs (x ∷ []) each (each_one P x here)

pub each_grows : {X : Type 0} (P Q : X → Type 0) (xs : List X) → ((x : X) → P x → Q x) → Each xs P → Each xs Q
each_grows P Q xs grows each k x e = grows x (each k x e)

pub each_none : {X : Type 0} (P : X → Type 0) → Each [] P
each_none P k x e = cc

-- ---- one

pub one_left : {X : Type 0} (P : X → Type 0) (xs ys : List X) → HasOne xs P → HasOne (xs ++ ys) P
one_left P xs ys one = (one.0, one.1, get_left xs ys one.0 one.1 one.2, one.3)

pub one_right : {X : Type 0} (P : X → Type 0) (xs ys : List X) → HasOne ys P → HasOne (xs ++ ys) P
one_right P xs ys one = (length xs + one.0, one.1, get_right xs ys one.0 one.1 one.2, one.3)

pub one_last : {X : Type 0} (P : X → Type 0) (xs : List X) (x : X) → P x → HasOne (xs ++ x ∷ []) P
one_last P xs x here = one_right P xs (x ∷ []) (0, x, refl, here)

-- ---- an option

pub some_grows : {X : Type 0} (P Q : X → Type 0) → ((x : X) → P x → Q x) → (option : Option X) → IfSome option P → IfSome option Q
some_grows P Q grows None holds = tt
some_grows P Q grows (Some x) holds = grows x holds

-- ---- items that are seen by a view

pub get_mapped : {X Y : Type 0} (f : X → Y) (xs : List X) (k : ℕ) (x : X) → slice_get xs k ≡ Some x → slice_get (map f xs) k ≡ Some (f x)
get_mapped f [] k x e = cc
get_mapped f (y ∷ xs) zero x e = let same : y ≡ x = cc in ap (λ z. Some (f z)) same
get_mapped f (y ∷ xs) (suc k) x e = get_mapped f xs k x e

pub get_of_mapped : {X Y : Type 0} (f : X → Y) (xs : List X) (k : ℕ) (y : Y) → slice_get (map f xs) k ≡ Some y → (x : X) × (slice_get xs k ≡ Some x) × (f x ≡ y)
get_of_mapped f [] k y e = cc
get_of_mapped f (x ∷ xs) zero y e = let same : f x ≡ y = cc in (x, refl, same)
get_of_mapped f (x ∷ xs) (suc k) y e = get_of_mapped f xs k y e

-- ---- in another order

get_moved : {X : Type 0} (xs ys : List X) → IsPermutation xs ys → (k : ℕ) (x : X) → slice_get xs k ≡ Some x → (j : ℕ) × (slice_get ys j ≡ Some x)
get_moved xs ys moved k x e =
    let there = Contains-permutation xs ys x moved (k, slice_get_within xs k x e, get_or_from_slice_get xs k x x e) in
    (there.0, slice_get_read ys (length ys) there.0 x refl there.1 (sym there.2))

pub each_moved : {X : Type 0} (P : X → Type 0) (xs ys : List X) → IsPermutation xs ys → Each xs P → Each ys P
each_moved P xs ys moved each k x e = let before = get_moved ys xs (IsPermutation-sym xs ys moved) k x e in each before.0 x before.1

pub one_moved : {X : Type 0} (P : X → Type 0) (xs ys : List X) → IsPermutation xs ys → HasOne xs P → HasOne ys P
one_moved P xs ys moved one = let after = get_moved xs ys moved one.0 one.1 one.2 in (after.0, one.1, after.1, one.3)
