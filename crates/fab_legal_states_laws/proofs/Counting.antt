-- How many items that differ a list can have, where each of them stands in another list.
use Rattle.std.proofs.Common.{◌≡◌, ◌≢◌, ℕ, zero, suc, ◌+◌, ◌<◌, ◌≤◌, List, [], ◌∷◌, ◌++◌, length, get_or, AllPairs, Contains, refl, sym, ap, ◌∙◌, subst, inl, inr, arith}
use Rattle.std.specs.List.{range_with_len}
use Rattle.std.proofs.lemmas.List.FromFn.{get_or-range_with_len, length-range_with_len}
use Rattle.std.proofs.lemmas.List.Elements.{All-contains_itself, Contains-append_cases}
use Rattle.std.proofs.lemmas.List.Kept.{AllPairs-cons}
use Rattle.fab_netlist.specs.Plain.{IsAt}
use Rattle.fab_netlist.proofs.Members.{first_in, later_in, first_or_later, in_none}

abbrev pub Differ : {X : Type 0} → List X → Type 0
Differ items = AllPairs (λ first second. first ≢ second) items

-- ---- lists whose items differ

pub none_differ : {X : Type 0} → Differ {X = X} []
none_differ = λ i j d less inside. absurd (omega (arith, inside))

-- the first item is none of the others, and these differ
pub first_differs : {X : Type 0} (x : X) (xs : List X) → Differ (x ∷ xs) → (y : X) → Contains xs y → x ≢ y
first_differs x xs differ y here same = differ 0 (suc here.0) y (omega arith) (omega (arith, here.1)) (same ∙ sym here.2)

pub others_differ : {X : Type 0} (x : X) (xs : List X) → Differ (x ∷ xs) → Differ xs
others_differ x xs differ = λ i j d less inside. differ (suc i) (suc j) d (omega (arith, less)) (omega (arith, inside))

pub both_differ : {X : Type 0} (xs ys : List X) → Differ xs → Differ ys → ((x : X) → Contains xs x → Contains ys x → ⊥) → Differ (xs ++ ys)
both_differ [] ys front back apart = back
both_differ {X} (x ∷ xs) ys front back apart =
    AllPairs-cons (λ first second. first ≢ second) x (xs ++ ys)
    (λ k d few same. elim (Contains-append_cases xs ys (get_or (xs ++ ys) k d) (All-contains_itself (xs ++ ys) k d few)) [
      | inl here ↦ first_differs x xs front (get_or (xs ++ ys) k d) here same
      | inr there ↦ apart x (first_in x xs x refl) (subst (Contains ys) (sym same) there)
    ])
    (both_differ xs ys (others_differ x xs front) back (λ y here there. apart y (later_in x xs y here) there))

-- ---- no more than there are

-- a list without the item at a place
abbrev without : {X : Type 0} → ℕ → List X → List X
without k [] = []
without zero (y ∷ ys) = ys
without (suc k) (y ∷ ys) = y ∷ without k ys

one_less : {X : Type 0} (k : ℕ) (ys : List X) → k < length ys → suc (length (without k ys)) ≡ length ys
one_less k [] few = absurd (omega (arith, few))
one_less zero (y ∷ ys) few = refl
one_less (suc k) (y ∷ ys) few = ap suc (one_less k ys (omega (arith, few)))

-- another item is still there
still_there : {X : Type 0} (k : ℕ) (ys : List X) (x z : X) → IsAt ys k x → x ≢ z → Contains ys z → Contains (without k ys) z
still_there k [] x z at other here = absurd (in_none z here)
still_there zero (y ∷ ys) x z at other here = elim (first_or_later y ys z here) [
  | inl same ↦ absurd (other (sym at.1 ∙ same))
  | inr later ↦ later
]
still_there (suc k) (y ∷ ys) x z at other here = elim (first_or_later y ys z here) [
  | inl same ↦ first_in y (without k ys) z same
  | inr later ↦ later_in y (without k ys) z (still_there k ys x z (omega (arith, at.0), at.1) other later)
]

pub no_more : {X : Type 0} (xs ys : List X) → Differ xs → ((x : X) → Contains xs x → Contains ys x) → length xs ≤ length ys
no_more [] ys differ all = omega arith
no_more (x ∷ xs) ys differ all =
    let at = all x (first_in x xs x refl) in
    omega (
      arith,
      no_more xs (without at.0 ys) (others_differ x xs differ)
          (λ z here. still_there at.0 ys x z (at.1, at.2) (first_differs x xs differ z here) (all z (later_in x xs z here))),
      one_less at.0 ys at.1,
    )

-- ---- numbers

pub below_there : (n k : ℕ) → k < n → Contains (range_with_len 0 n) k
below_there n k few = (k, omega (arith, few, length-range_with_len 0 n), get_or-range_with_len 0 n k k few ∙ (let zero_before : 0 + k ≡ k = omega arith in zero_before))
