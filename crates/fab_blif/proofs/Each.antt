-- What holds of each item of a list.
use Rattle.std.proofs.Common.{ℕ, zero, suc, Bool, List, [], ◌∷◌, ◌++◌, map, flat_map, get_or, Contains, inl, inr}
use Rattle.std.specs.List.{AllByRecursion as Each, filter}
use Rattle.std.proofs.lemmas.Bool.{cases_Bool}
use Rattle.std.proofs.lemmas.List.Elements.{All-contains, All-from_recursion}

pub each_joined : {X : Type 0} (P : X → Type 0) (xs ys : List X) → Each P xs → Each P ys → Each P (xs ++ ys)
each_joined P [] ys first second = second
each_joined P (x ∷ xs) ys first second = (first.0, each_joined P xs ys first.1 second)

pub each_left : {X : Type 0} (P : X → Type 0) (xs ys : List X) → Each P (xs ++ ys) → Each P xs
each_left P [] ys all = tt
each_left P (x ∷ xs) ys all = (all.0, each_left P xs ys all.1)

pub each_right : {X : Type 0} (P : X → Type 0) (xs ys : List X) → Each P (xs ++ ys) → Each P ys
each_right P [] ys all = all
each_right P (x ∷ xs) ys all = each_right P xs ys all.1

pub each_mapped : {X Y : Type 0} (P : Y → Type 0) (f : X → Y) (xs : List X) → Each (λ x. P (f x)) xs → Each P (map f xs)
each_mapped P f [] all = tt
each_mapped P f (x ∷ xs) all = (all.0, each_mapped P f xs all.1)

-- what each item stands for
pub each_flat : {X Y : Type 0} (P : X → Type 0) (Q : Y → Type 0) (f : X → List Y) (step : (x : X) → P x → Each Q (f x)) (xs : List X) → Each P xs → Each Q (flat_map f xs)
each_flat P Q f step [] all = tt
each_flat P Q f step (x ∷ xs) all = each_joined Q (f x) (flat_map f xs) (step x all.0) (each_flat P Q f step xs all.1)

pub each_part : {X Y : Type 0} (Q : Y → Type 0) (f : X → List Y) (xs : List X) → Each Q (flat_map f xs) → Each (λ x. Each Q (f x)) xs
each_part Q f [] all = tt
each_part Q f (x ∷ xs) all = (each_left Q (f x) (flat_map f xs) all, each_part Q f xs (each_right Q (f x) (flat_map f xs) all))

pub each_kept : {X : Type 0} (P : X → Type 0) (p : X → Bool) (xs : List X) → Each P xs → Each P (filter p xs)
each_kept P p [] all = tt
each_kept P p (x ∷ xs) all =
    elim (cases_Bool (p x)) [
      | inl t ↦ rw t (all.0, each_kept P p xs all.1)
      | inr f ↦ rw f (each_kept P p xs all.1)
    ]

pub each_weaker : {X : Type 0} (P Q : X → Type 0) (step : (x : X) → P x → Q x) (xs : List X) → Each P xs → Each Q xs
each_weaker P Q step [] all = tt
each_weaker P Q step (x ∷ xs) all = (step x all.0, each_weaker P Q step xs all.1)

pub of_member : {X : Type 0} (P : X → Type 0) (xs : List X) (x : X) → Each P xs → Contains xs x → P x
of_member P xs x all here = All-contains P xs x (All-from_recursion P xs all) here

-- the item at a place, or what stands for one past the end
pub of_place : {X : Type 0} (P : X → Type 0) (xs : List X) (place : ℕ) (none : X) → P none → Each P xs → P (get_or xs place none)
of_place P [] place none other all = other
of_place P (x ∷ xs) zero none other all = all.0
of_place P (x ∷ xs) (suc place) none other all = of_place P xs place none other all.1
