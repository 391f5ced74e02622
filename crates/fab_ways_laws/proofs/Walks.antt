-- A walk of least price goes through no wire twice, and its edges enter wires that the tree lacks.
use Rattle.std.proofs.Common.{◌≡◌, ℕ, ◌+◌, ◌≤◌, Bool, true, false, if◌then◌else◌, List, [], ◌∷◌, Contains, nat_eq, refl, sym, ◌∙◌, subst, inl, inr, arith, eqb-true}
use Rattle.std.proofs.lemmas.Bool.{cases_Bool, cases_lt, false≢true}
use Rattle.std.proofs.lemmas.List.Sums.{sum_by-cons}
use Rattle.fab_legal.specs.fab_model.specs.Grid.{PlainFabric}
use Rattle.fab_legal.specs.fab_netlist.specs.WellMade.{times}
use Rattle.fab_legal.specs.fab_netlist.proofs.Members.{in_none, first_or_later, number_any, any_number}
use Rattle.fab_legal.specs.fab_netlist.proofs.Counts.{nowhere_or_at}
use Rattle.fab_ways_laws.specs.Routing.{Path, has, Walk, toll, total, IsLeastWalk}
use Rattle.fab_ways_laws.specs.Routing.Walk.{begins, goes}

-- ---- members by test and by count

pub in_has : (wires : List ℕ) (wire : ℕ) → has wires wire ≡ true → Contains wires wire
in_has wires wire h = any_number wires wire h

pub has_in : (wires : List ℕ) (wire : ℕ) → Contains wires wire → has wires wire ≡ true
has_in wires wire h = number_any wires wire h

pub lacks : (wires : List ℕ) (wire : ℕ) → (Contains wires wire → ⊥) → has wires wire ≡ false
lacks wires wire never = elim (cases_Bool (has wires wire)) [ inl t ↦ absurd (never (in_has wires wire t)) | inr f ↦ f ]

pub lacking : (wires : List ℕ) (wire : ℕ) → has wires wire ≡ false → Contains wires wire → ⊥
lacking wires wire absent here = false≢true (sym absent ∙ has_in wires wire here)

pub counted_in : (wire : ℕ) (wires : List ℕ) → 1 ≤ times wire wires → Contains wires wire
counted_in wire wires h = elim (nowhere_or_at wire wires) [
  | inl none ↦ absurd (omega (arith, none, h))
  | inr at ↦ (at.0, at.1.0, at.1.1)
]

-- ---- walks

module _ (fabric : PlainFabric) (tree : List ℕ) (IsStart : ℕ → Type 0) (price : ℕ → ℕ) where
  -- the walk to a wire on the way
  pub cut : {wire : ℕ} {path : Path} → Walk fabric tree IsStart wire path → (w : ℕ) → Contains path w →
      (short : Path) × Walk fabric tree IsStart w short × (total tree price short ≤ total tree price path)
  cut {wire} {path} (begins start) w here = elim (first_or_later wire [] w here) [
    | inl same ↦ (wire ∷ [], subst (λ (v : ℕ). Walk fabric tree IsStart v (wire ∷ [])) same (begins start), omega arith)
    | inr none ↦ absurd (in_none w none)
  ]
  cut {wire} {path} (goes {wire = from} {path = front} earlier step free) w here = elim (first_or_later wire front w here) [
    | inl same ↦ (wire ∷ front, subst (λ (v : ℕ). Walk fabric tree IsStart v (wire ∷ front)) same (goes earlier step free), omega arith)
    | inr later ↦ (let found = cut earlier w later in (found.0, found.1, omega (arith, found.2, sum_by-cons (toll tree price) wire front)))
  ]

  -- a walk that goes through a wire twice has one that is cheaper
  pub shorter : ((w : ℕ) → 1 ≤ price w) → {wire : ℕ} {path : Path} → Walk fabric tree IsStart wire path → (w : ℕ) → 2 ≤ times w path →
      (short : Path) × Walk fabric tree IsStart wire short × (total tree price short + 1 ≤ total tree price path)
  shorter paid {wire} {path} (begins start) w twice = absurd (one (nat_eq wire w) twice)
    where
      one : (b : Bool) → 2 ≤ (if b then 1 else 0) + 0 → ⊥
      one true h = omega (arith, h)
      one false h = omega (arith, h)
  shorter paid {wire} {path} (goes {wire = from} {path = front} earlier step free) w twice =
      let sum = sum_by-cons (toll tree price) wire front in
      let fee : toll tree price wire ≡ price wire = rw free refl in
      elim (cases_Bool (nat_eq wire w)) [
        | inl equal ↦ (
            let same : wire ≡ w = eqb-true wire w equal in
            let again : 1 ≤ times w front = (let t : 2 ≤ 1 + times w front = rw equal at twice in omega (arith, t)) in
            let found = cut earlier w (counted_in w front again) in
            (found.0, subst (λ (v : ℕ). Walk fabric tree IsStart v found.0) (sym same) found.1, omega (arith, found.2, sum, fee, paid wire)))
        | inr other ↦ (
            let again : 2 ≤ times w front = (let t : 2 ≤ 0 + times w front = rw other at twice in omega (arith, t)) in
            let found = shorter paid earlier w again in
            (wire ∷ found.0, goes found.1 step free, omega (arith, found.2, sum, sum_by-cons (toll tree price) wire found.0)))
      ]

  pub once : ((w : ℕ) → 1 ≤ price w) → (sink : ℕ) (path : Path) → IsLeastWalk fabric tree IsStart price sink path → (w : ℕ) → times w path ≤ 1
  once paid sink path least w = elim (cases_lt 1 (times w path)) [
    | inl twice ↦ (let found = shorter paid least.0 w twice in absurd (omega (arith, found.2, least.1 found.0 found.1)))
    | inr few ↦ few
  ]
