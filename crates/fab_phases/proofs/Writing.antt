-- What a tick writes to flip-flops and latches.
use Rattle.std.proofs.Common.{◌≡◌, ◌⊎◌, ℕ, ◌<◌, List, length, Some, refl, sym, ap, ◌∙◌, subst, inl, inr, slice_set}
use Rattle.std.specs.List.{slice_get}
use Rattle.std.proofs.lemmas.Bool.{cases_eq}
use Rattle.fab_systems_laws.specs.Ternary.{no, yes, unknown, Tern as PlainTern}
use Rattle.fab_ternary_laws.specs.Shown.{through}
use Rattle.fab_ternary.specs.declared.Tern.{Tern}
use Rattle.fab_ternary.specs.Terns.{plain_tern}
use Rattle.fab_network.specs.declared.network.Clock.TheVariants.{Loader}
use Rattle.fab_network.specs.declared.network.Drive.TheVariants.{Flop, Hold}
use Rattle.fab_network.specs.declared.network.Network.{Network}
use Rattle.fab_network.specs.declared.network.Source.{Source}
use Rattle.fab_network.specs.Network.{source_tern}
use Rattle.fab_network.specs.Passes.{kept_tern}
use Rattle.fab_network.proofs.Kept.{kept_same, kept_other}
use Rattle.fab_phases.specs.Loading.{IsLatch, IsLoadedFlop}
use Rattle.fab_phases.specs.Words.{IsLeft}
use Rattle.fab_phases.specs.inner.Ticks.{AreOnWay, IsSet, LeavesPoints, Tick, WritesOnly}
use Rattle.fab_phases.specs.declared.loading.LoadedFlop.{LoadedFlop}
use Rattle.fab_phases.specs.declared.loading.Latch.{Latch}

-- what holds of the written point and of all others
pub set_keeps : (terns : List Tern) (point : ℕ) (t : Tern) (P : ℕ → PlainTern → Type 0) → point < length terns → P point (plain_tern t) →
    ((other : ℕ) → (other ≡ point → ⊥) → P other (kept_tern terns other)) → (other : ℕ) → P other (kept_tern (slice_set terns point t) other)
set_keeps terns point t P less here there other =
    elim (cases_eq other point) [
      | inl e ↦ subst (λ (p : ℕ). P p (kept_tern (slice_set terns point t) p)) (sym e) (subst (P point) (sym (kept_same terns point t less)) here)
      | inr apart ↦ subst (P other) (sym (kept_other terns point t other apart)) (there other apart)
    ]

-- ---- which points are written

pub writes_more : (Written : ℕ → Type 0) (old now : List Tern) (point : ℕ) (t : Tern) → WritesOnly Written old now → Written point →
    WritesOnly Written old (slice_set now point t)
writes_more Written old now point t so_far here other =
    elim (cases_eq other point) [
      | inl e ↦ inl (subst Written (sym e) here)
      | inr apart ↦ elim (so_far other) [ inl written ↦ inl written | inr same ↦ inr (kept_other now point t other apart ∙ same) ]
    ]

-- two writers one after the other
pub writes_both : (Written More : ℕ → Type 0) (old now new : List Tern) → WritesOnly Written old now → WritesOnly More now new →
    ((point : ℕ) → More point → Written point) → WritesOnly Written old new
writes_both Written More old now new first second all point =
    elim (second point) [
      | inl more ↦ inl (all point more)
      | inr same ↦ elim (first point) [ inl written ↦ inl written | inr before ↦ inr (same ∙ before) ]
    ]

-- ---- one point more

-- the items of the first places
abbrev pub HasBelow : {X : Type 0} → (count : ℕ) → List X → (X → Type 0) → Type 0
HasBelow {X} count xs P = (place : ℕ) × (x : X) × (place < count) × (slice_get xs place ≡ Some x) × P x

pub leaves_none : (network : Network) (tick : Tick network) (Has : ℕ → Type 0) (old : List Tern) → AreOnWay network tick old → ((point : ℕ) → Has point → ⊥) →
    LeavesPoints network tick Has old old
leaves_none network tick Has old way none = record {
  on_way = way;
  stay = λ p h. h;
  left = λ p has. absurd (none p has);
}

pub leaves_more : (network : Network) (tick : Tick network) (Has More : ℕ → Type 0) (old now : List Tern) (point : ℕ) (t : Tern) → LeavesPoints network tick Has old now →
    point < length now → IsSet network tick point (plain_tern t) → ((other : ℕ) → (other ≡ point → ⊥) → More other → Has other) →
    LeavesPoints network tick More old (slice_set now point t)
leaves_more network tick Has More old now point t so_far less set others = record {
  on_way = set_keeps now point t (λ p (held : PlainTern). (held ≡ tick.before p) ⊎ IsSet network tick p held) less (inr set) (λ p _. so_far.on_way p);
  stay = λ p h. set_keeps now point t (λ q (held : PlainTern). IsLeft network Loader tick.t q (kept_tern old q) → IsLeft network Loader tick.t q held) less
      (λ _. set.left) (λ q _. so_far.stay q) p h;
  left = set_keeps now point t (λ q (held : PlainTern). More q → IsLeft network Loader tick.t q held) less (λ _. set.left) (λ q apart has. so_far.left q (others q apart has));
}

-- the same where what the point holds already is what the tick leaves
pub leaves_same : (network : Network) (tick : Tick network) (Has More : ℕ → Type 0) (old now : List Tern) (point : ℕ) → LeavesPoints network tick Has old now →
    IsLeft network Loader tick.t point (kept_tern now point) → ((other : ℕ) → (other ≡ point → ⊥) → More other → Has other) → LeavesPoints network tick More old now
leaves_same network tick Has More old now point so_far here others = record {
  on_way = so_far.on_way;
  stay = so_far.stay;
  left = λ p more.
      elim (cases_eq p point) [
        | inl e ↦ subst (λ (q : ℕ). IsLeft network Loader tick.t q (kept_tern now q)) (sym e) here
        | inr apart ↦ so_far.left p (others p apart more)
      ];
}

-- two writers one after the other
pub leaves_both : (network : Network) (tick : Tick network) (Has More All : ℕ → Type 0) (old now new : List Tern) → LeavesPoints network tick Has old now →
    LeavesPoints network tick More now new → ((point : ℕ) → All point → Has point ⊎ More point) → LeavesPoints network tick All old new
leaves_both network tick Has More All old now new first second either = record {
  on_way = second.on_way;
  stay = λ p h. second.stay p (first.stay p h);
  left = λ p all. elim (either p all) [ inl has ↦ second.stay p (first.left p has) | inr more ↦ second.left p more ];
}

-- ---- what is left

pub flop_set : (network : Network) (tick : Tick network) (flop : LoadedFlop) (left : PlainTern) → IsLoadedFlop network tick.asked tick.loads flop →
    left ≡ source_tern network.trees.items tick.t flop.next → IsSet network tick flop.point left
flop_set network tick flop left is value = record {
  marked = is.marked;
  stored = inl (flop.next, is.is);
  left = record {
    flop = λ next drives.
        let both : Some (Flop Loader flop.next) ≡ Some (Flop Loader next) = sym is.is ∙ drives in
        let same : flop.next ≡ next = cc in
        value ∙ ap (source_tern network.trees.items tick.t) same;
    latch = λ gate latched drives. let both : Some (Flop Loader flop.next) ≡ Some (Hold gate latched) = sym is.is ∙ drives in absurd (cc);
  };
}

-- a latch twice is a latch once
through_again : (gate d held : PlainTern) → through gate d (through gate d held) ≡ through gate d held
through_again yes d held = refl
through_again no d held = refl
through_again unknown no no = refl
through_again unknown no yes = refl
through_again unknown no unknown = refl
through_again unknown yes no = refl
through_again unknown yes yes = refl
through_again unknown yes unknown = refl
through_again unknown unknown no = refl
through_again unknown unknown yes = refl
through_again unknown unknown unknown = refl

-- what a latch of a run has: its data or what it held before, by the gate of the run
latch_has : (network : Network) (tick : Tick network) (opens : Source) (latch : Latch) → IsLatch network tick.asked tick.loads opens latch →
    tick.t latch.point ≡ through (source_tern network.trees.items tick.t opens) (source_tern network.trees.items tick.t latch.latched) (tick.before latch.point)
latch_has network tick opens latch is =
    tick.latches latch.point is.own_gate latch.latched is.is
    ∙ ap (λ (gate : PlainTern). through gate (source_tern network.trees.items tick.t latch.latched) (tick.before latch.point)) (is.together tick.t tick.possible)

pub latch_set : (network : Network) (tick : Tick network) (opens : Source) (latch : Latch) (held left : PlainTern) → IsLatch network tick.asked tick.loads opens latch →
    (held ≡ tick.before latch.point) ⊎ IsSet network tick latch.point held →
    left ≡ through (source_tern network.trees.items tick.t opens) (source_tern network.trees.items tick.t latch.latched) held → IsSet network tick latch.point left
latch_set network tick opens latch held left is way value =
    let gate = source_tern network.trees.items tick.t opens in
    let given = source_tern network.trees.items tick.t latch.latched in
    let has = latch_has network tick opens latch is in
    let as_before : held ≡ tick.before latch.point → left ≡ tick.t latch.point = λ e. value ∙ ap (through gate given) e ∙ sym has in
    let as_set : held ≡ tick.t latch.point → left ≡ tick.t latch.point =
    λ e. value ∙ ap (through gate given) (e ∙ has) ∙ through_again gate given (tick.before latch.point) ∙ sym has in
    let is_t : left ≡ tick.t latch.point = elim way [ inl e ↦ as_before e | inr set ↦ as_set (set.left.latch is.own_gate latch.latched is.is) ] in
    record {
      marked = is.marked;
      stored = inr (is.own_gate, latch.latched, is.is);
      left = record {
        flop = λ next drives. let both : Some (Hold is.own_gate latch.latched) ≡ Some (Flop Loader next) = sym is.is ∙ drives in absurd (cc);
        latch = λ g l drives. is_t;
      };
    }

-- a latch whose gate is 0 holds what it is to hold
pub latch_closed : (network : Network) (tick : Tick network) (opens : Source) (latch : Latch) (held : PlainTern) → IsLatch network tick.asked tick.loads opens latch →
    source_tern network.trees.items tick.t opens ≡ no → (held ≡ tick.before latch.point) ⊎ IsSet network tick latch.point held → IsLeft network Loader tick.t latch.point held
latch_closed network tick opens latch held is closed way =
    let given = source_tern network.trees.items tick.t latch.latched in
    let value : held ≡ through (source_tern network.trees.items tick.t opens) given held = sym (ap (λ (gate : PlainTern). through gate given held) closed) in
    (latch_set network tick opens latch held held is way value).left
