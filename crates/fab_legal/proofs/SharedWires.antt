-- The least wire that stands in two nets.
use Rattle.std.proofs.Common.{◌≡◌, ◌⊎◌, ℕ, ◌+◌, ◌<◌, ◌≤◌, List, [], ◌∷◌, map, length, get_or, Contains, Option, Some, None, min, fold, nat_eq, refl, sym, ap, ◌∙◌, subst, inl, inr, arith}
use Rattle.std.specs.List.{list_any}
use Rattle.std.proofs.lemmas.Bool.{cases_Bool, cases_lt}
use Rattle.std.proofs.lemmas.Bool.Decides.{Decides-eqb}
use Rattle.std.proofs.lemmas.List.{length-map, get_or_default, get_or_past}
use Rattle.indexmap.specs.IndexSet.{IndexSet, insert_all}
use Rattle.fab_implementation.specs.fab_netlist.proofs.Counts.{at_mapped}
use Rattle.fab_implementation.specs.fab_netlist.proofs.Members.{in_none, first_or_later, first_in, later_in}
use Rattle.fab_legal.specs.inner.Tables.{key_lists, IsLeast, IsShared, lesser, keep_least}
use Rattle.fab_legal.proofs.Lists.{cases_below}
use Rattle.fab_legal.proofs.Sets.{any_in, none_in, all_in, old_in, new_in}

-- a number stands in two of the first lists
pub record SharedBelow (lists : List (List ℕ)) (count n : ℕ) : Type 0 where
  pub first : ℕ
  pub second : ℕ
  pub apart : first < second
  pub inside : second < count
  pub in_first : Contains (get_or lists first []) n
  pub in_second : Contains (get_or lists second []) n

-- the owned numbers are those of the first lists
pub record Owns (lists : List (List ℕ)) (count : ℕ) (owned : List ℕ) : Type 0 where
  pub sound : (n : ℕ) → Contains owned n → (k : ℕ) × (k < count) × Contains (get_or lists k []) n
  pub complete : (k n : ℕ) → k < count → Contains (get_or lists k []) n → Contains owned n

lesser_least : (P : ℕ → Type 0) (least : Option ℕ) (wire : ℕ) → IsLeast P least → IsLeast (λ n. P n ⊎ (wire ≡ n)) (lesser least wire)
lesser_least P None wire is = (inr refl, λ n either. elim either [ inl here ↦ absurd (is n here) | inr same ↦ omega (arith, same) ])
lesser_least P (Some m) wire is =
    elim (cases_lt m wire) [
      | inl less ↦ (let e : min m wire ≡ m = omega (arith, less) in
          (subst (λ (n : ℕ). P n ⊎ (wire ≡ n)) (sym e) (inl is.0), λ n either. elim either [ inl here ↦ omega (arith, e, is.1 n here) | inr same ↦ omega (arith, e, same, less) ]))
      | inr other ↦ (let e : min m wire ≡ wire = omega (arith, other) in
          (subst (λ (n : ℕ). P n ⊎ (wire ≡ n)) (sym e) (inr refl), λ n either. elim either [ inl here ↦ omega (arith, e, other, is.1 n here) | inr same ↦ omega (arith, e, same) ]))
    ]

same_least : (P Q : ℕ → Type 0) (least : Option ℕ) → ((n : ℕ) → P n → Q n) → ((n : ℕ) → Q n → P n) → IsLeast P least → IsLeast Q least
same_least P Q None to from is = λ n here. is n (from n here)
same_least P Q (Some m) to from is = (to m is.0, λ n here. is.1 n (from n here))

kept_least : (owned : List ℕ) (wires : List ℕ) (least : Option ℕ) (P : ℕ → Type 0) → IsLeast P least → IsLeast (λ n. P n ⊎ (Contains wires n × Contains owned n)) (fold (keep_least owned) least wires)
kept_least owned [] least P is = same_least P (λ n. P n ⊎ (Contains [] n × Contains owned n)) least (λ n here. inl here) (λ n either. elim either [ inl here ↦ here | inr none ↦ absurd (in_none n none.0) ]) is
kept_least owned (wire ∷ wires) least P is =
    elim (cases_Bool (list_any (nat_eq wire) owned)) [
      | inl t ↦ (
          let next = kept_least owned wires (lesser least wire) (λ n. P n ⊎ (wire ≡ n)) (lesser_least P least wire is) in
          let moved = same_least (λ n. (P n ⊎ (wire ≡ n)) ⊎ (Contains wires n × Contains owned n)) (λ n. P n ⊎ (Contains (wire ∷ wires) n × Contains owned n)) (fold (keep_least owned) (lesser least wire) wires)
          (λ n either. elim either [
            | inl before ↦ elim before [ inl here ↦ inl here | inr same ↦ inr (first_in wire wires n same, subst (λ (m : ℕ). Contains owned m) same (any_in nat_eq Decides-eqb owned wire t)) ]
            | inr later ↦ inr (later_in wire wires n later.0, later.1)
          ])
          (λ n either. elim either [
            | inl here ↦ inl (inl here)
            | inr both ↦ elim (first_or_later wire wires n both.0) [ inl same ↦ inl (inr same) | inr later ↦ inr (later, both.1) ]
          ]) next in
          rw t moved)
      | inr f ↦ (
          let next = kept_least owned wires least P is in
          let moved = same_least (λ n. P n ⊎ (Contains wires n × Contains owned n)) (λ n. P n ⊎ (Contains (wire ∷ wires) n × Contains owned n)) (fold (keep_least owned) least wires)
          (λ n either. elim either [ inl here ↦ inl here | inr later ↦ inr (later_in wire wires n later.0, later.1) ])
          (λ n either. elim either [
            | inl here ↦ inl here
            | inr both ↦ elim (first_or_later wire wires n both.0) [
              | inl same ↦ absurd (none_in nat_eq Decides-eqb owned wire f (subst (λ (m : ℕ). Contains owned m) (sym same) both.1))
              | inr later ↦ inr (later, both.1)
            ]
          ]) next in
          rw f moved)
    ]

pub owns_none : (lists : List (List ℕ)) → Owns lists 0 []
owns_none lists = record { sound = λ n here. absurd (in_none n here); complete = λ k n below here. absurd (omega (arith, below)) }

pub shared_none : (lists : List (List ℕ)) → IsLeast (SharedBelow lists 0) None
shared_none lists = λ n here. omega (arith, here.inside)

module _ (lists : List (List ℕ)) (count : ℕ) (owned wires : List ℕ) (least : Option ℕ) (owns : Owns lists count owned) (is : get_or lists count [] ≡ wires) where
  pub owns_more : Owns lists (count + 1) (insert_all nat_eq owned wires)
  owns_more = record {
    sound = λ n here. elim (all_in nat_eq Decides-eqb owned wires n here) [
      | inl old ↦ (let was = owns.sound n old in (was.0, omega (arith, was.1), was.2))
      | inr new ↦ (count, omega arith, subst (λ (l : List ℕ). Contains l n) (sym is) new)
    ];
    complete = λ k n below here. elim (cases_below k count below) [
      | inl earlier ↦ old_in nat_eq Decides-eqb owned wires n (owns.complete k n earlier here)
      | inr same ↦ new_in nat_eq Decides-eqb owned wires n (subst (λ (l : List ℕ). Contains l n) (ap (λ (m : ℕ). get_or lists m []) same ∙ is) here)
    ];
  }

  pub shared_more : IsLeast (SharedBelow lists count) least → IsLeast (SharedBelow lists (count + 1)) (fold (keep_least owned) least wires)
  shared_more so_far =
      same_least (λ n. SharedBelow lists count n ⊎ (Contains wires n × Contains owned n)) (SharedBelow lists (count + 1)) (fold (keep_least owned) least wires)
      (λ n either. elim either [
        | inl before ↦ record { first = before.first; second = before.second; apart = before.apart; inside = omega (arith, before.inside); in_first = before.in_first; in_second = before.in_second }
        | inr both ↦ (let was = owns.sound n both.1 in
            record { first = was.0; second = count; apart = was.1; inside = omega arith; in_first = was.2; in_second = subst (λ (l : List ℕ). Contains l n) (sym is) both.0 })
      ])
      (λ n here. elim (cases_below here.second count here.inside) [
        | inl earlier ↦ inl (record { first = here.first; second = here.second; apart = here.apart; inside = earlier; in_first = here.in_first; in_second = here.in_second })
        | inr same ↦ inr (
          subst (λ (l : List ℕ). Contains l n) (ap (λ (m : ℕ). get_or lists m []) same ∙ is) here.in_second,
          owns.complete here.first n (omega (arith, here.apart, same)) here.in_first,
        )
      ])
      (kept_least owned wires least (SharedBelow lists count) so_far)

pub shared_all : (lists : List (List ℕ)) (count : ℕ) (least : Option ℕ) → length lists ≤ count → IsLeast (SharedBelow lists count) least → IsLeast (IsShared lists) least
shared_all lists count least all is =
    same_least (SharedBelow lists count) (IsShared lists) least
    (λ n here. elim (cases_lt here.second (length lists)) [
      | inl small ↦ record { first = here.first; second = here.second; apart = here.apart; inside = small; in_first = here.in_first; in_second = here.in_second }
      | inr past ↦ absurd (in_none n (subst (λ (l : List ℕ). Contains l n) (get_or_past lists here.second [] past) here.in_second))
    ])
    (λ n here. record { first = here.first; second = here.second; apart = here.apart; inside = omega (arith, here.inside, all); in_first = here.in_first; in_second = here.in_second }) is

-- the wires of a set
pub keys_read : {S : Type 0} (sets : List (IndexSet ℕ S)) (n : ℕ) (set : IndexSet ℕ S) (wires : List ℕ) → n < length sets → set ≡ get_or sets n set → wires ≡ set.keys → get_or (key_lists sets) n [] ≡ wires
keys_read {S} sets n set wires inside read are =
    let there = at_mapped (λ (s : IndexSet ℕ S). s.keys) sets n set (inside, sym read) in
    get_or_default (map (λ (s : IndexSet ℕ S). s.keys) sets) n [] set.keys there.0 ∙ there.1 ∙ sym are

pub as_many_lists : {S : Type 0} (sets : List (IndexSet ℕ S)) (n : ℕ) → length sets ≤ n → length (key_lists sets) ≤ n
as_many_lists {S} sets n past = omega (arith, past, length-map sets (λ (s : IndexSet ℕ S). s.keys))
