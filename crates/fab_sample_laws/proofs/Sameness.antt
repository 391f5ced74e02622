-- Equal names and numbers, and how often a name stands in a list.
use Rattle.std.proofs.Common.{◌≡◌, ℕ, ◌+◌, Bool, true, false, cond, List, ◌∷◌, ◌++◌, nat_eq, inl, inr, arith, eq-eqb, eqb-true}
use Rattle.std.specs.List.{count_by}
use Rattle.std.specs.Str.{bytes_eq}
use Rattle.std.proofs.lemmas.Bool.{cases_Bool}
use Rattle.std.proofs.lemmas.List.Sums.{sum_by-cons, sum_by-append}
use Rattle.std.proofs.lemmas.Grind.{common_steps}
use Rattle.std.proofs.lemmas.Slice.Eq.{bytes_eq-Decides}
use Rattle.fab_blif_models.specs.Words.{Word}

pub same_bytes : (a b : Word) → bytes_eq a b ≡ true → a ≡ b
same_bytes a b same = grind (arith, common_steps, bytes_eq-Decides)

pub bytes_same : (a b : Word) → a ≡ b → bytes_eq a b ≡ true
bytes_same a b same = grind (arith, common_steps, bytes_eq-Decides)

pub not_same : (a b : Word) → (a ≡ b → ⊥) → bytes_eq a b ≡ false
not_same a b differ = elim (cases_Bool (bytes_eq a b)) [
  | inl t ↦ absurd (differ (same_bytes a b t))
  | inr f ↦ f
]

pub nat_same : (a b : ℕ) → nat_eq a b ≡ true → a ≡ b
nat_same a b same = eqb-true a b same

pub same_nat : (a b : ℕ) → a ≡ b → nat_eq a b ≡ true
same_nat a b same = eq-eqb a b same

pub count_first : {X : Type 0} (p : X → Bool) (x : X) (xs : List X) → count_by p (x ∷ xs) ≡ cond (p x) 1 0 + count_by p xs
count_first p x xs = sum_by-cons (λ y. cond (p y) 1 0) x xs

pub count_joined : {X : Type 0} (p : X → Bool) (xs ys : List X) → count_by p (xs ++ ys) ≡ count_by p xs + count_by p ys
count_joined p xs ys = sum_by-append (λ y. cond (p y) 1 0) xs ys
