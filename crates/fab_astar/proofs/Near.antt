-- One more node in a bucket, and one less.
use Rattle.std.proofs.Common.{◌≡◌, ◌≢◌, ◌⊎◌, ℕ, ◌+◌, ◌/◌, ◌<◌, zero, suc, List, [], ◌∷◌, ◌++◌, length, map, Vec, get_or, set, sum_by, refl, sym, ◌∙◌, ap, inl, inr, arith, length-set, length-append, get_or-set_same, get_or-set_other}
use Rattle.std.proofs.lemmas.Bool.{cases_eq, cases_lt}
use Rattle.std.proofs.lemmas.List.{length-map, map-set, get_or-map, set-get_or}
use Rattle.std.proofs.Math.ListN.{get_or-eq_default}
use Rattle.std.proofs.lemmas.List.Sums.{sum_by-set}
use Rattle.std.proofs.lemmas.List.Elements.{Contains-append_left, Contains-push, Contains-push_cases}
use Rattle.std.specs.List.{Contains}
use Rattle.fab_astar.specs.Queue.{IsNear}

-- what stands in the bucket that is lent
pub lent : {A : Type 0} (xs : List (Vec ℕ A)) (at : ℕ) (was : Vec ℕ A) → at < length xs → was ≡ get_or xs at was → was.items ≡ get_or (map (λ (b : Vec ℕ A). b.items) xs) at []
lent {A} xs at was l e = ap (λ (b : Vec ℕ A). b.items) e ∙ sym (get_or-map (λ (b : Vec ℕ A). b.items) xs at was [] l)

pub inside_near : {A : Type 0} (xs : List (Vec ℕ A)) (at : ℕ) → at < length (map (λ (b : Vec ℕ A). b.items) xs) → at < length xs
inside_near {A} xs at l = omega (arith, length-map xs (λ (b : Vec ℕ A). b.items))

pub set-twice : {X : Type 0} (xs : List X) (i : ℕ) (a b : X) → set (set xs i a) i b ≡ set xs i b
set-twice [] i a b = refl
set-twice (x ∷ xs) zero a b = refl
set-twice (x ∷ xs) (suc i) a b = ap (λ ys. x ∷ ys) (set-twice xs i a b)

-- the buckets with one more node in one of them
module _ (xs ys : List (List ℕ)) (at node : ℕ) (inside : at < length xs) (is : ys ≡ set xs at (get_or xs at [] ++ node ∷ [])) where
  at_node : get_or ys at [] ≡ get_or xs at [] ++ node ∷ []
  at_node = ap (λ zs. get_or zs at []) is ∙ get_or-set_same xs at (get_or xs at [] ++ node ∷ []) [] inside

  pub elsewhere : (k : ℕ) → k ≢ at → get_or ys k [] ≡ get_or xs k []
  elsewhere k n = ap (λ zs. get_or zs k []) is ∙ get_or-set_other xs at k (get_or xs at [] ++ node ∷ []) [] n

  pub near_here : IsNear ys (at / 8) node
  near_here = (at, refl, rw at_node (Contains-push (get_or xs at []) node))

  pub near_kept : (key v : ℕ) → IsNear xs key v → IsNear ys key v
  near_kept key v h = elim (cases_eq h.0 at) [
    | inl e ↦ (at, ap (λ n. n / 8) (sym e) ∙ h.1, rw at_node (Contains-append_left (get_or xs at []) (node ∷ []) v (rw e at h.2)))
    | inr n ↦ (h.0, h.1, rw (elsewhere h.0 n) h.2)
  ]

  pub near_cases : (key v : ℕ) → IsNear ys key v → ((key ≡ at / 8) × (v ≡ node)) ⊎ IsNear xs key v
  near_cases key v h = elim (cases_eq h.0 at) [
    | inl e ↦
        let c : Contains (get_or xs at [] ++ node ∷ []) v = rw (e, at_node) at h.2 in
        elim (Contains-push_cases (get_or xs at []) node v c) [
          | inl before ↦ inr (at, ap (λ n. n / 8) (sym e) ∙ h.1, before)
          | inr here ↦ inl (sym h.1 ∙ ap (λ n. n / 8) e, sym here)
        ]
    | inr n ↦ inr (h.0, h.1, rw (elsewhere h.0 n) at h.2)
  ]

  pub longer : sum_by (λ (nodes : List ℕ). length nodes) ys ≡ sum_by (λ (nodes : List ℕ). length nodes) xs + 1
  longer =
      let n = sum_by-set (λ (nodes : List ℕ). length nodes) xs at (get_or xs at [] ++ node ∷ []) [] inside in
      let a = length-append (get_or xs at []) (node ∷ []) in
      let q = ap (λ zs. sum_by (λ (nodes : List ℕ). length nodes) zs) is in
      omega arith

  pub as_many : length ys ≡ length xs
  as_many = ap length is ∙ length-set xs at (get_or xs at [] ++ node ∷ [])

-- a bucket without its last node is one to which the node is given again
pub given_again : (xs ys : List (List ℕ)) (at node : ℕ) (others : List ℕ) → at < length xs → get_or xs at [] ≡ others ++ node ∷ [] → ys ≡ set xs at others → xs ≡ set ys at (get_or ys at [] ++ node ∷ [])
given_again xs ys at node others l e is =
    let here : get_or ys at [] ≡ others = ap (λ zs. get_or zs at []) is ∙ get_or-set_same xs at others [] l in
    sym (
    ap (λ zs. set zs at (get_or ys at [] ++ node ∷ [])) is
    ∙ set-twice xs at others (get_or ys at [] ++ node ∷ [])
    ∙ ap (λ zs. set xs at zs) (ap (λ zs. zs ++ node ∷ []) here ∙ sym e)
    ∙ set-get_or xs at []
    )

pub near_inside : (xs : List (List ℕ)) (k v : ℕ) → Contains (get_or xs k []) v → k < length xs
near_inside xs k v c = elim (cases_lt k (length xs)) [
  | inl l ↦ l
  | inr l ↦ absurd (let h = rw (get_or-eq_default xs [] l) at c in omega (arith, h.1))
]

-- no node stands in an empty bucket
pub none_there : (xs : List (List ℕ)) (k v : ℕ) → get_or xs k [] ≡ [] → Contains (get_or xs k []) v → ⊥
none_there xs k v e c = let h = rw e at c in omega (arith, h.1)

-- the buckets with one more node in one of them
pub record IsLonger (xs ys : List (List ℕ)) (at node : ℕ) : Type 0 where
  pub inside : at < length xs
  pub is : ys ≡ set xs at (get_or xs at [] ++ node ∷ [])

pub lent_longer : {A : Type 0} (xs : List (Vec ℕ A)) (at : ℕ) (was now : Vec ℕ A) (node : ℕ) → at < length (map (λ (b : Vec ℕ A). b.items) xs) → was ≡ get_or xs at was → now.items ≡ was.items ++ node ∷ []
    → IsLonger (map (λ (b : Vec ℕ A). b.items) xs) (map (λ (b : Vec ℕ A). b.items) (set xs at now)) at node
lent_longer {A} xs at was now node l e more = record {
  inside = l;
  is = map-set (λ (b : Vec ℕ A). b.items) xs at now ∙ ap (set (map (λ (b : Vec ℕ A). b.items) xs) at) (more ∙ ap (λ zs. zs ++ node ∷ []) (lent xs at was (inside_near xs at l) e));
}

pub lent_shorter : {A : Type 0} (xs : List (Vec ℕ A)) (at : ℕ) (was now : Vec ℕ A) (node : ℕ) → at < length (map (λ (b : Vec ℕ A). b.items) xs) → was ≡ get_or xs at was → was.items ≡ now.items ++ node ∷ []
    → IsLonger (map (λ (b : Vec ℕ A). b.items) (set xs at now)) (map (λ (b : Vec ℕ A). b.items) xs) at node
lent_shorter {A} xs at was now node l e less =
    let m = map-set (λ (b : Vec ℕ A). b.items) xs at now in
    record {
      inside = rw m (omega (arith, l, length-set (map (λ (b : Vec ℕ A). b.items) xs) at now.items));
      is = given_again (map (λ (b : Vec ℕ A). b.items) xs) (map (λ (b : Vec ℕ A). b.items) (set xs at now)) at node now.items l (sym (lent xs at was (inside_near xs at l) e) ∙ less) m;
    }

-- a bucket is emptied
pub emptied : {A : Type 0} (xs : List (Vec ℕ A)) (at : ℕ) (now : Vec ℕ A) → at < length (map (λ (b : Vec ℕ A). b.items) xs) → now.items ≡ [] → get_or (map (λ (b : Vec ℕ A). b.items) (set xs at now)) at [] ≡ []
emptied {A} xs at now l e = ap (λ zs. get_or zs at []) (map-set (λ (b : Vec ℕ A). b.items) xs at now) ∙ get_or-set_same (map (λ (b : Vec ℕ A). b.items) xs) at now.items [] l ∙ e

pub unchanged : {A : Type 0} (xs : List (Vec ℕ A)) (at k : ℕ) (now : Vec ℕ A) → k ≢ at → get_or (map (λ (b : Vec ℕ A). b.items) (set xs at now)) k [] ≡ get_or (map (λ (b : Vec ℕ A). b.items) xs) k []
unchanged {A} xs at k now n = ap (λ zs. get_or zs k []) (map-set (λ (b : Vec ℕ A). b.items) xs at now) ∙ get_or-set_other (map (λ (b : Vec ℕ A). b.items) xs) at k now.items [] n

pub as_long : {A : Type 0} (xs : List (Vec ℕ A)) (at : ℕ) (now : Vec ℕ A) → length (map (λ (b : Vec ℕ A). b.items) (set xs at now)) ≡ length (map (λ (b : Vec ℕ A). b.items) xs)
as_long {A} xs at now = ap length (map-set (λ (b : Vec ℕ A). b.items) xs at now) ∙ length-set (map (λ (b : Vec ℕ A). b.items) xs) at now.items

pub empty_list : (xs : List ℕ) → length xs ≡ 0 → xs ≡ []
empty_list [] h = refl
empty_list (x ∷ xs) h = absurd (omega arith)
