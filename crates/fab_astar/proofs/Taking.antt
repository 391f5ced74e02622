-- The state after a node took a price.
use Rattle.std.proofs.Common.{◌≡◌, ◌≢◌, ◌⊎◌, ℕ, ◌+◌, ◌<◌, ◌≤◌, true, false, cond, eqb, not, length, get_or, refl, sym, ◌∙◌, inl, inr, arith, length-set, get_or-set_same, get_or-set_other}
use Rattle.std.proofs.lemmas.Bool.{cases_eq, cases_lt, ne_eqb}
use Rattle.std.proofs.lemmas.Bool.Decides.{nat_tests}
use Rattle.std.proofs.lemmas.List.{get_or_past}
use Rattle.std.proofs.lemmas.List.Sums.{sum_by-set}
use Rattle.fab_astar.specs.State.{State, stamp, cost, before, IsOpen, IsDone, IsSeen, improves, taken, unsettled, IsShaped, Grows}

pub improves_yes : (s : State) (w price : ℕ) → improves s w price ≡ true → (IsOpen s w × (price < cost s w)) ⊎ (stamp s w < s.mark)
improves_yes s w price h = elim (cases_eq (stamp s w) s.mark) [
  | inl e ↦ inl (e, grind (arith, nat_tests))
  | inr n ↦ inr (grind (arith, nat_tests))
]

pub improves_no : (s : State) (w price : ℕ) → improves s w price ≡ false → (IsOpen s w × (cost s w ≤ price)) ⊎ (s.mark < stamp s w)
improves_no s w price h = elim (cases_eq (stamp s w) s.mark) [
  | inl e ↦ inl (e, grind (arith, nat_tests))
  | inr n ↦ inr (grind (arith, nat_tests))
]

pub seen_inside : (nodes : ℕ) (s : State) → IsShaped nodes s → (w : ℕ) → IsSeen s w → w < nodes
seen_inside nodes s h w seen = elim (cases_lt w (length s.stamps)) [
  | inl l ↦ omega (arith, h.stamps)
  | inr l ↦ absurd (omega (arith, h.marked, get_or_past s.stamps w 0 l))
]

-- the parts of a state that took a price
module _ (nodes : ℕ) (s : State) (w price from : ℕ) (shape : IsShaped nodes s) (inside : w < nodes) where
  pub stamp_here : stamp (taken s w price from) w ≡ s.mark
  stamp_here = get_or-set_same s.stamps w s.mark 0 (omega (arith, shape.stamps))

  pub stamp_there : (v : ℕ) → v ≢ w → stamp (taken s w price from) v ≡ stamp s v
  stamp_there v n = get_or-set_other s.stamps w v s.mark 0 n

  pub cost_here : cost (taken s w price from) w ≡ price
  cost_here = get_or-set_same s.costs w price 0 (omega (arith, shape.costs))

  pub cost_there : (v : ℕ) → v ≢ w → cost (taken s w price from) v ≡ cost s v
  cost_there v n = get_or-set_other s.costs w v price 0 n

  pub before_here : before (taken s w price from) w ≡ from
  before_here = get_or-set_same s.befores w from 0 (omega (arith, shape.befores))

  pub before_there : (v : ℕ) → v ≢ w → before (taken s w price from) v ≡ before s v
  before_there v n = get_or-set_other s.befores w v from 0 n

  pub shaped : IsShaped nodes (taken s w price from)
  shaped = record {
    stamps = length-set s.stamps w s.mark ∙ shape.stamps;
    costs = length-set s.costs w price ∙ shape.costs;
    befores = length-set s.befores w from ∙ shape.befores;
    marked = shape.marked;
    small = shape.small;
    latest = λ v. elim (cases_eq v w) [
      | inl e ↦ rw e (omega (arith, stamp_here))
      | inr n ↦ omega (arith, stamp_there v n, shape.latest v)
    ];
  }

  pub done_back : (v : ℕ) → IsDone (taken s w price from) v → (v ≢ w) × IsDone s v
  done_back v d = elim (cases_eq v w) [
    | inl e ↦ absurd (let q : stamp (taken s w price from) w ≡ s.mark + 1 = rw e at d in omega (arith, stamp_here))
    | inr n ↦ (n, sym (stamp_there v n) ∙ d)
  ]

  module _ (undone : stamp s w ≤ s.mark) where
    pub done_on : (v : ℕ) → IsDone s v → (v ≢ w) × IsDone (taken s w price from) v × (cost (taken s w price from) v ≡ cost s v)
    done_on v d = elim (cases_eq v w) [
      | inl e ↦ absurd (let q : stamp s w ≡ s.mark + 1 = rw e at d in omega arith)
      | inr n ↦ (n, stamp_there v n ∙ d, cost_there v n)
    ]

    pub unsettled_same : unsettled (taken s w price from) ≡ unsettled s
    unsettled_same =
        let n = sum_by-set (λ t. cond (not (eqb t (s.mark + 1))) 1 0) s.stamps w s.mark 0 (omega (arith, shape.stamps)) in
        let a = ne_eqb (get_or s.stamps w 0) (s.mark + 1) (λ e. omega arith) in
        let b = ne_eqb s.mark (s.mark + 1) (λ e. omega arith) in
        let m = rw (a, b) at n in
        omega arith

pub Grows-same : (s : State) → Grows s s
Grows-same s = record { mark = refl; left = refl; done = λ v d. (d, refl); only = λ v d. d; seen = λ v h. (h, omega arith) }

pub Grows-trans : (s t u : State) → Grows s t → Grows t u → Grows s u
Grows-trans s t u g h = record {
  mark = h.mark ∙ g.mark;
  left = h.left ∙ g.left;
  done = λ v d. let a = g.done v d in let b = h.done v a.0 in (b.0, b.1 ∙ a.1);
  only = λ v d. g.only v (h.only v d);
  seen = λ v e. let a = g.seen v e in let b = h.seen v a.0 in (b.0, omega (arith, a.1, b.1));
}
