-- Lists whose items differ.
use Rattle.std.proofs.Common.{◌≡◌, ◌≢◌, ℕ, zero, suc, ◌<◌, Bool, true, ◌&&◌, List, [], ◌∷◌, map, get_or, take, AllPairs, Contains, refl, sym, ◌∙◌, subst, inl, inr, arith}
use Rattle.std.specs.List.{AllByRecursion as Each, list_all}
use Rattle.std.proofs.lemmas.Bool.{cases_lt}
use Rattle.fab_netlist.specs.Plain.{IsAt}
use Rattle.fab_legal.specs.Turns.{AreRight}
use Rattle.fab_legal.specs.Lines.{IsNew}
use Rattle.fab_legal.proofs.Lists.{at_default, at_from_mapped, same_at}
use Rattle.fab_legal.proofs.Once.{before_in}

abbrev pub Differ : {X : Type 0} → List X → Type 0
Differ items = AllPairs (λ first second. first ≢ second) items

-- ---- places

-- items of two places are two
pub at_two : {X : Type 0} (xs : List X) (j k : ℕ) (x y : X) → Differ xs → IsAt xs j x → IsAt xs k y → j < k → x ≡ y → ⊥
at_two xs j k x y differ first second less same =
    differ j k x less second.0 (first.1 ∙ same ∙ sym (same_at xs k (get_or xs k x) y (at_default xs k x second.0) second))

pub one_place : {X : Type 0} (xs : List X) (j k : ℕ) (x y : X) → Differ xs → IsAt xs j x → IsAt xs k y → x ≡ y → j ≡ k
one_place xs j k x y differ first second same = elim (cases_lt j k) [
  | inl less ↦ absurd (at_two xs j k x y differ first second less same)
  | inr other ↦ elim (cases_lt k j) [
    | inl more ↦ absurd (at_two xs k j y x differ second first more (sym same))
    | inr least ↦ omega (arith, other, least)
  ]
]

-- where each item is new behind those before it
pub new_differ : {X : Type 0} (xs : List X) → AreRight IsNew xs → Differ xs
new_differ {X} xs right = λ i j d less inside same.
    right j (get_or xs j d) inside (at_default xs j d inside)
    (subst (λ (x : X). Contains (take j xs) x) same (before_in xs i j (get_or xs i d) less (omega (arith, inside)) (at_default xs i d (omega (arith, less, inside)))))

-- what tells items apart keeps them apart
module _ {X Y : Type 0} (f : X → Y) (P : X → Type 0) (tells : (a b : X) → P a → P b → f a ≡ f b → a ≡ b) where
  pub mapped_differ : (xs : List X) → ((x : X) → Contains xs x → P x) → Differ xs → Differ (map f xs)
  mapped_differ xs all differ = λ i j d less inside same.
      let first = at_from_mapped f xs i (get_or (map f xs) i d) (at_default (map f xs) i d (omega (arith, less, inside))) in
      let second = at_from_mapped f xs j (get_or (map f xs) j d) (at_default (map f xs) j d inside) in
      at_two xs i j first.0 second.0 differ first.1 second.1 less
      (tells first.0 second.0 (all first.0 (i, first.1.0, first.1.1)) (all second.0 (j, second.1.0, second.1.1)) (first.2 ∙ same ∙ sym second.2))

-- ---- members

pub each_from_members : {X : Type 0} (P : X → Type 0) (xs : List X) → ((x : X) → Contains xs x → P x) → Each P xs
each_from_members P [] all = tt
each_from_members P (x ∷ xs) all = (all x (zero, omega arith, refl), each_from_members P xs (λ y here. all y (suc here.0, omega (arith, here.1), here.2)))

-- what passes a test, each for itself
pub each_tested : {X : Type 0} (test : X → Bool) (xs : List X) → Each (λ x. test x ≡ true) xs → list_all test xs ≡ true
each_tested test [] all = refl
each_tested test (x ∷ xs) all = let here = all.0 in let rest = each_tested test xs all.1 in λ j. here j && rest j
