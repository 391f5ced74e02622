-- Points that wait: one more, or one less.
use Rattle.std.proofs.Common.{◌≡◌, ℕ, ◌-◌, ◌<◌, Bool, true, false, List, [], ◌∷◌, ◌++◌, Some, length, take, refl, sym, ap, ◌∙◌, subst, inl, inr}
use Rattle.std.proofs.Common.{arith, length-append, slice_get, slice_set, slice_index}
use Rattle.std.proofs.lemmas.Bool.{cases_eq, cases_lt}
use Rattle.std.proofs.lemmas.List.{append-nil, length-set, length-take-le}
use Rattle.fab_compiled.specs.Leading.{PointTerns, FollowLeads, IsMarked}
use Rattle.fab_network.specs.declared.network.Clock.{Clock}
use Rattle.fab_network.specs.declared.network.Network.{Network}
use Rattle.fab_network.specs.Passes.{IsListed}
use Rattle.fab_demand.specs.Asked.{Asked, AsksMore}
use Rattle.fab_demand.specs.Demand.{IsLooked}
use Rattle.fab_demand.specs.Search.{AreWaiting}
use Rattle.fab_demand.proofs.Growing.{Grows, decided_grows, stands_grows}
use Rattle.fab_demand.proofs.Lists.{get_other, get_same, get_within, index_is, index_last, index_left, index_take, listed_last, listed_left}
use Rattle.fab_demand.proofs.Lists.{mark_stays, not_both}

-- ---- what is known stays

module _ (network : Network) (clock : Clock) (given : PointTerns) (asked : Asked) (done : List Bool) (point : ℕ)
    (looked : IsLooked network clock given asked done)
    (waits : slice_get done point ≡ Some false) where
  abbrev waiting : Asked
  waiting = record asked { marks = slice_set asked.marks point true }

  wait_follows : (t : PointTerns) → FollowLeads asked.leads waiting.marks t → FollowLeads asked.leads asked.marks t
  wait_follows t follows q m = follows q (mark_stays asked.marks point q m)

  wait_grows : Grows asked waiting
  wait_grows = record {
    above = λ t above. above;
    possible = λ t possible. record { above = possible.above; follows = wait_follows t possible.follows };
    marks = λ q m. mark_stays asked.marks point q m;
  }

  more_follow : (t : PointTerns) → FollowLeads asked.leads asked.marks t → FollowLeads asked.leads waiting.marks t
  more_follow t follows q m =
      elim (cases_eq q point) [
        | inl e ↦ ap t (sym (ap (slice_index asked.leads) e ∙ (looked.others point waits).0 ∙ sym e))
        | inr n ↦ follows q (sym (get_other asked.marks point true q n) ∙ m)
      ]

  pub wait_looked : IsLooked network clock given waiting done
  wait_looked = record {
    whole = record {
      terns = looked.whole.terns;
      marks = length-set asked.marks point true ∙ looked.whole.marks;
      few = looked.whole.few;
      view = looked.whole.view;
      own = looked.whole.own;
    };
    sound = λ later t kept solves. let possible = looked.sound later t kept solves in record
        { above = possible.above; follows = more_follow t possible.follows };
    enough = λ q m. elim (looked.enough q m) [
      | inl listed ↦ inl listed
      | inr decided ↦ inr (decided_grows network clock given asked waiting wait_grows q decided)
    ];
    own = λ q listed. let known = looked.own q listed in (known.0, stands_grows network clock given asked waiting wait_grows q known.1.not_kept known.1);
    once = looked.once;
    registers = looked.registers;
    led = looked.led;
    last = looked.last;
    others = looked.others;
  }

  pub wait_asks : AsksMore asked waiting
  wait_asks = record { long = refl; marks = wait_grows.marks; more = []; own = sym (append-nil asked.own); possible = wait_grows.possible }

-- ---- the stack

module _ (marks done : List Bool) (stack : List ℕ) (point : ℕ) (are : AreWaiting marks done stack) where
  -- one more
  module _ (unmarked : slice_get marks point ≡ Some false) (waits : slice_get done point ≡ Some false) where
    abbrev longer : List ℕ
    longer = stack ++ point ∷ []

    abbrev more_marks : List Bool
    more_marks = slice_set marks point true

    abbrev Waits : ℕ → Type 0
    Waits q = IsMarked more_marks q × (slice_get done q ≡ Some false)

    wait_more : (place : ℕ) → place < length longer → Waits (slice_index longer place)
    wait_more place l =
        elim (cases_lt place (length stack)) [
          | inl before ↦ (let at = are.wait place before in
              subst Waits (sym (index_left stack (point ∷ []) place before)) (mark_stays marks point (slice_index stack place) at.0, at.1))
          | inr after ↦ (let last : place ≡ length stack = omega (arith, l, after, length-append stack (point ∷ [])) in
              subst Waits (sym (ap (slice_index longer) last ∙ index_last stack point))
              (get_same marks point true (get_within marks point false unmarked), waits))
        ]

    once_more : (place later : ℕ) → place < later → later < length longer → slice_index longer place ≡ slice_index longer later → ⊥
    once_more place later l within e =
        let early : place < length stack = omega (arith, l, within, length-append stack (point ∷ [])) in
        let at_place : slice_index longer place ≡ slice_index stack place = index_left stack (point ∷ []) place early in
        elim (cases_lt later (length stack)) [
          | inl before ↦ are.once place later l before (sym at_place ∙ e ∙ index_left stack (point ∷ []) later before)
          | inr after ↦ (let last : later ≡ length stack = omega (arith, within, after, length-append stack (point ∷ [])) in
              let is : slice_index stack place ≡ point = sym at_place ∙ e ∙ ap (slice_index longer) last ∙ index_last stack point in
              not_both marks point (ap (slice_get marks) (sym is) ∙ (are.wait place early).0) unmarked)
        ]

    all_more : (q : ℕ) → IsMarked more_marks q → slice_get done q ≡ Some false → IsListed longer q
    all_more q marked still =
        elim (cases_eq q point) [
          | inl e ↦ subst (IsListed longer) (sym e) (listed_last stack point)
          | inr n ↦ listed_left stack (point ∷ []) q (are.all q (sym (get_other marks point true q n) ∙ marked) still)
        ]

    pub waits_more : AreWaiting more_marks done longer
    waits_more = record { wait = wait_more; once = once_more; all = all_more }

  -- the last one is done
  module _ (last : slice_get stack (length stack - 1) ≡ Some point) where
    abbrev count : ℕ
    count = length stack - 1

    abbrev shorter : List ℕ
    shorter = take count stack

    room : count < length stack
    room = get_within stack count point last

    at_last : slice_index stack count ≡ point
    at_last = index_is stack count point last

    shorter_length : length shorter ≡ count
    shorter_length = length-take-le count stack (omega (arith, room))

    pub last_waits : IsMarked marks point × (slice_get done point ≡ Some false)
    last_waits = subst (λ q. IsMarked marks q × (slice_get done q ≡ Some false)) at_last (are.wait count room)

    abbrev less_done : List Bool
    less_done = slice_set done point true

    apart : (place : ℕ) → place < count → slice_index stack place ≡ point → ⊥
    apart place l e = are.once place count l room (e ∙ sym at_last)

    wait_less : (place : ℕ) → place < length shorter → IsMarked marks
        (slice_index shorter place) × (slice_get less_done (slice_index shorter place) ≡ Some false)
    wait_less place l =
        let early : place < count = omega (arith, l, shorter_length) in
        let at = are.wait place (omega (arith, early, room)) in
        subst (λ q. IsMarked marks q × (slice_get less_done q ≡ Some false)) (sym (index_take count stack place early))
        (at.0, get_other done point true (slice_index stack place) (apart place early) ∙ at.1)

    once_less : (place later : ℕ) → place < later → later < length shorter → slice_index shorter place ≡ slice_index shorter later → ⊥
    once_less place later l within e =
        let inside : later < count = omega (arith, within, shorter_length) in
        are.once place later l (omega (arith, inside, room)) (sym (index_take count stack place (omega (arith, l, inside))) ∙ e
        ∙ index_take count stack later inside)

    all_less : (q : ℕ) → IsMarked marks q → slice_get less_done q ≡ Some false → IsListed shorter q
    all_less q marked still =
        let is_done : slice_get less_done point ≡ Some true = get_same done point true (get_within done point false last_waits.1) in
        let other : q ≡ point → ⊥ = λ e. not_both less_done point is_done (ap (slice_get less_done) (sym e) ∙ still) in
        let listed = are.all q marked (sym (get_other done point true q other) ∙ still) in
        elim (cases_lt listed.0 count) [
          | inl before ↦ (listed.0, omega (arith, before, shorter_length), index_take count stack listed.0 before ∙ listed.2)
          | inr after ↦ (let e : listed.0 ≡ count = omega (arith, after, listed.1) in
              absurd (other (sym listed.2 ∙ ap (slice_index stack) e ∙ at_last)))
        ]

    pub waits_fewer : AreWaiting marks less_done shorter
    waits_fewer = record { wait = wait_less; once = once_less; all = all_less }
