-- The first two trees that have a node, tree by tree.
use Rattle.std.proofs.Common.{◌≡◌, ◌≢◌, ◌⊎◌, ℕ, ◌+◌, ◌<◌, ◌≤◌, List, take, length, get_or, Contains, nat_eq, Option, Some, None, refl, sym, ap, ◌∙◌, subst, inl, inr, arith}
use Rattle.std.specs.List.{list_any}
use Rattle.std.proofs.lemmas.Bool.{cases_Bool, cases_lt, cases_eq, false≢true}
use Rattle.std.proofs.lemmas.Bool.Decides.{eqb_tells}
use Rattle.std.proofs.Math.ListN.{set}
use Rattle.std.proofs.lemmas.List.{get_or-set_same, get_or-set_other, get_or_default}
use Rattle.fab_netlist.specs.Plain.{IsAt}
use Rattle.fab_netlist.proofs.Members.{number_any, any_number}
use Rattle.fab_legal.proofs.Lists.{cases_below}
use Rattle.fab_legal.proofs.Members.{in_taken, stays_taken, last_taken}
use Rattle.fab_pathfinder.specs.Rounds.{Paths, nodes_of, tree_at}
use Rattle.fab_route.specs.declared.shared.Owners.{Owners}
use Rattle.fab_route.specs.inner.Owners.{AreFirst, HasNode, no_owners, owners_at, AreOwners, noted_in, noted, IsNoted}

in_or_out : (xs : List ℕ) (x : ℕ) → Contains xs x ⊎ (Contains xs x → ⊥)
in_or_out xs x = elim (cases_Bool (list_any (λ y. nat_eq y x) xs)) [
  | inl holds ↦ inl (any_number xs x holds)
  | inr fails ↦ inr (λ here. false≢true (sym fails ∙ number_any xs x here))
]

-- ---- one node

-- what holds of the first two holds of the first two by another property that says the same
pub same_first : (Has Had : ℕ → Type 0) (first second : Option ℕ) → ((k : ℕ) → Has k → Had k) → ((k : ℕ) → Had k → Has k) → AreFirst Has first second → AreFirst Had first second
same_first Has Had None None to from are = λ k had. are k (from k had)
same_first Has Had None (Some second) to from are = absurd are
same_first Has Had (Some first) None to from are = (to first are.0, λ k had. are.1 k (from k had))
same_first Has Had (Some first) (Some second) to from are = (are.0, to first are.1, to second are.2, λ k less had. are.3 k less (from k had))

-- one more number, behind all others or one of the last
pub first_more : (Has : ℕ → Type 0) (place : ℕ) (first second : Option ℕ) → ((k : ℕ) → Has k → k ≤ place) → AreFirst Has first second →
    AreFirst (λ k. Has k ⊎ (k ≡ place)) (noted_in place first second).first (noted_in place first second).second
first_more Has place None None low are = (inr refl, λ k has. elim has [ inl old ↦ absurd (are k old) | inr same ↦ same ])
first_more Has place None (Some second) low are = absurd are
first_more Has place (Some first) None low are = elim (eqb_tells first place) [
  | inl holds ↦ rw holds.0 (inl are.0, λ k has. elim has [ inl old ↦ are.1 k old | inr same ↦ same ∙ sym holds.1 ])
  | inr fails ↦ rw fails.0 (
    before first (low first are.0) fails.1,
    inl are.0,
    inr refl,
    λ k less has. elim has [ inl old ↦ are.1 k old | inr same ↦ absurd (omega (arith, less, same)) ],
  )
]
  where
    before : (a : ℕ) → a ≤ place → a ≢ place → a < place
    before a few other = elim (cases_lt a place) [ inl less ↦ less | inr past ↦ absurd (other (omega (arith, few, past))) ]
first_more Has place (Some first) (Some second) low are = (
  are.0,
  inl are.1,
  inl are.2,
  λ k less has. elim has [ inl old ↦ are.3 k less old | inr same ↦ absurd (omega (arith, less, same, low second are.2)) ],
)

-- a tree is noted once
noted_once : (place : ℕ) (first second : Option ℕ) → noted place (noted_in place first second) ≡ noted_in place first second
noted_once place None second = elim (eqb_tells place place) [
  | inl holds ↦ rw holds.0 refl
  | inr fails ↦ absurd (fails.1 refl)
]
noted_once place (Some first) None = elim (eqb_tells first place) [
  | inl holds ↦ rw (holds.0, holds.0) refl
  | inr fails ↦ rw fails.0 refl
]
noted_once place (Some first) (Some second) = refl

pub noted_again : (place : ℕ) (owners : Owners) → noted place (noted place owners) ≡ noted place owners
noted_again place owners = noted_once place owners.first owners.second

-- ---- the nodes of one tree

pub note_more : (old now : List Owners) (place i node : ℕ) (nodes : List ℕ) (here new : Owners) → IsAt nodes i node → node < length now → here ≡ get_or now node here → new ≡ noted place here →
    IsNoted old now place (take i nodes) → IsNoted old (set now node new) place (take (i + 1) nodes)
note_more old now place i node nodes here new at low read is so_far = record {
  here = λ w inside. elim (cases_eq w node) [
    | inl same ↦ ap (owners_at (set now node new)) same ∙ own ∙ ap (λ v. noted place (owners_at old v)) (sym same)
    | inr other ↦ elim (in_taken nodes i node w at inside) [
      | inl before ↦ kept w other ∙ so_far.here w before
      | inr same ↦ absurd (other (sym same))
    ]
  ];
  other = λ w none. kept w (λ same. none (subst (λ (v : ℕ). Contains (take (i + 1) nodes) v) (sym same) (last_taken nodes i node at)))
      ∙ so_far.other w (λ before. none (stays_taken nodes i node w at before));
}
  where
    kept : (w : ℕ) → (w ≡ node → ⊥) → owners_at (set now node new) w ≡ owners_at now w
    kept w other = get_or-set_other now node w new no_owners other

    here_is : here ≡ owners_at now node
    here_is = read ∙ get_or_default now node here no_owners low

    -- it was noted before, or it is noted now
    once : (owners_at now node ≡ noted place (owners_at old node)) ⊎ (owners_at now node ≡ owners_at old node) → noted place (owners_at now node) ≡ noted place (owners_at old node)
    once (inl before) = ap (noted place) before ∙ noted_again place (owners_at old node)
    once (inr not_yet) = ap (noted place) not_yet

    either : (owners_at now node ≡ noted place (owners_at old node)) ⊎ (owners_at now node ≡ owners_at old node)
    either = elim (in_or_out (take i nodes) node) [ inl before ↦ inl (so_far.here node before) | inr none ↦ inr (so_far.other node none) ]

    own : owners_at (set now node new) node ≡ noted place (owners_at old node)
    own = get_or-set_same now node new no_owners low ∙ is ∙ ap (noted place) here_is ∙ once either

-- ---- all trees

pub owned_more : (trees : List Paths) (old new : List Owners) (place : ℕ) (nodes : List ℕ) → nodes_of (tree_at trees place) ≡ nodes → length new ≡ length old → IsNoted old new place nodes → AreOwners trees place old → AreOwners trees (place + 1) new
owned_more trees old new place nodes nodes_are long noted_is before node low = elim (in_or_out nodes node) [
  | inl inside ↦ subst (λ (o : Owners). AreFirst (HasNode trees (place + 1) node) o.first o.second) (sym (noted_is.here node inside))
      (same_first (λ k. HasNode trees place node k ⊎ (k ≡ place)) (HasNode trees (place + 1) node) (noted place (owners_at old node)).first (noted place (owners_at old node)).second
      (λ k has. elim has [
        | inl old_has ↦ (omega (arith, old_has.0), old_has.1)
        | inr same ↦ (omega (arith, same), subst (λ (j : ℕ). Contains (nodes_of (tree_at trees j)) node) (sym same) (subst (λ (ns : List ℕ). Contains ns node) (sym nodes_are) inside))
      ])
      (λ k has. elim (cases_below k place has.0) [ inl less ↦ inl (less, has.1) | inr same ↦ inr same ])
      (first_more (HasNode trees place node) place (owners_at old node).first (owners_at old node).second (λ k has. omega (arith, has.0)) earlier))
  | inr none ↦ subst (λ (o : Owners). AreFirst (HasNode trees (place + 1) node) o.first o.second) (sym (noted_is.other node none))
      (same_first (HasNode trees place node) (HasNode trees (place + 1) node) (owners_at old node).first (owners_at old node).second
      (λ k has. (omega (arith, has.0), has.1))
      (λ k has. elim (cases_below k place has.0) [
        | inl less ↦ (less, has.1)
        | inr same ↦ absurd (none (subst (λ (ns : List ℕ). Contains ns node) nodes_are (subst (λ (j : ℕ). Contains (nodes_of (tree_at trees j)) node) same has.1)))
      ])
      earlier)
]
  where
    earlier : AreFirst (HasNode trees place node) (owners_at old node).first (owners_at old node).second
    earlier = before node (omega (arith, low, long))
