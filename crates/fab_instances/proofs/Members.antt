-- Members of lists.
use Rattle.std.proofs.Common.{◌≡◌, ◌⊎◌, zero, suc, List, [], ◌∷◌, Contains, inl, inr, arith}

-- nothing stands in an empty list
pub in_none : {X : Type 0} (x : X) → Contains [] x → ⊥
in_none x (place, within, same) = omega (arith, within)

-- a member is the first item or stands behind it
pub first_or_later : {X : Type 0} (y : X) (ys : List X) (x : X) → Contains (y ∷ ys) x → (y ≡ x) ⊎ Contains ys x
first_or_later y ys x (zero, within, same) = inl same
first_or_later y ys x (suc place, within, same) = inr (place, omega (arith, within), same)

-- the first item is a member
pub first_in : {X : Type 0} (y : X) (ys : List X) (x : X) → y ≡ x → Contains (y ∷ ys) x
first_in y ys x same = (zero, omega arith, same)

-- what stands behind it is a member
pub later_in : {X : Type 0} (y : X) (ys : List X) (x : X) → Contains ys x → Contains (y ∷ ys) x
later_in y ys x (place, within, same) = (suc place, omega (arith, within), same)
