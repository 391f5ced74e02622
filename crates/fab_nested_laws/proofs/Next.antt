-- The next state behind each event, and that it is the only one at declared points.
use Rattle.std.proofs.Common.{◌≡◌, ◌≢◌, Bool, true, false, List, [], ◌∷◌, if◌then◌else◌, All, refl, sym, ap, ◌∙◌, subst, inl, inr}
use Rattle.std.proofs.lemmas.Bool.{cases_Bool}
use Rattle.std.proofs.lemmas.List.Elements.{All-head, All-tail}
use Rattle.fab_syntax.specs.Plain.{PlainModule}
use Rattle.fab_meaning.specs.Points.{Point, Driver, Drives}
use Rattle.fab_meaning.specs.Settled.{shown}
use Rattle.fab_meaning.specs.Runs.{kept}
use Rattle.fab_meaning.specs.Reads.{same_point, is_declared}
use Rattle.fab_meaning.specs.Sound.{DrivesOnce}
use Rattle.fab_meaning.specs.Activation.{State, Event, activate, tick, change, held_after, IsSameAt, IsStep, AreSteps}
use Rattle.fab_meaning.proofs.Dependence.{same_point_refl, same_point_is}
use Rattle.fab_meaning.proofs.SingleDrivers.{one_driver}
use Rattle.fab_meaning.proofs.SoundDrivers.{has_one_driver}
use Rattle.fab_nested_laws.specs.Events.{IsEvent, EventsLeadOn, EventsLeaveOne}
use Rattle.fab_nested_laws.proofs.Driven.{Told, another, driver_told}

apart_test : (p q : Point) → q ≢ p → same_point p q ≡ false
apart_test p q apart = elim (cases_Bool (same_point p q)) [ inl t ↦ absurd (apart (sym (same_point_is p q t))) | inr f ↦ f ]

-- ---- there is one

module _ (text : List PlainModule) (once : All (DrivesOnce text) text) where
  -- what a point's driver gives, and the old value where it has none
  given_by : (p : Point) (gives : Driver → Bool) (old : Bool) → Told ((d : Driver) × Drives text p d) → Bool
  given_by p gives old (inl found) = gives found.0
  given_by p gives old (inr none) = old

  given : (p : Point) (gives : Driver → Bool) (old : Bool) → Bool
  given p gives old = given_by p gives old (driver_told text p)

  given_is : (p : Point) (gives : Driver → Bool) (old : Bool) (d : Driver) → Drives text p d → given p gives old ≡ gives d
  unfolding given given_by
  given_is p gives old d drives =
      elim (driver_told text p) as (λ told. given_by p gives old told ≡ gives d) [
        | inl found ↦ ap gives (one_driver text once p found.0 d found.1 drives)
        | inr none ↦ absurd (none (d, drives))
      ]

  module _ (before : State) where
    -- one point gets these values
    moved : (p : Point) (now held : Bool) → State
    moved p now held = record {
      now = λ q. if same_point p q then now else before.now q;
      held = λ q. if same_point p q then held else before.held q;
    }

    moved_now : (p : Point) (now held : Bool) → (moved p now held).now p ≡ now
    unfolding moved
    moved_now p now held = rw (same_point_refl p) refl

    moved_held : (p : Point) (now held : Bool) → (moved p now held).held p ≡ held
    unfolding moved
    moved_held p now held = rw (same_point_refl p) refl

    moved_others : (p : Point) (now held : Bool) (q : Point) → q ≢ p → IsSameAt q before (moved p now held)
    unfolding moved
    moved_others p now held q apart = (rw (apart_test p q apart) refl, rw (apart_test p q apart) refl)

    pub next_state : (event : Event) → IsEvent text event → (after : State) × IsStep text event before after
    next_state (activate p) is =
        let now = given p (shown text before.now before.held before.now p) (before.now p) in
        let held = given p (λ d. held_after d (before.held p) now) (before.held p) in
        let after = moved p now held in (
          after,
          record {
            takes = λ d drives. moved_now p now held ∙ given_is p (shown text before.now before.held before.now p) (before.now p) d drives;
            holds = λ d drives.
                moved_held p now held ∙ given_is p (λ d. held_after d (before.held p) now) (before.held p) d drives
                ∙ ap (held_after d (before.held p)) (sym (moved_now p now held));
            others = moved_others p now held;
          },
        )
    next_state (tick clock) is =
        let kept_by : Point → Driver → Bool = kept text clock before.held before.now in (
          record { now = before.now; held = λ p. given p (kept_by p) (before.held p) },
          record { stays = λ p. refl; keeps = λ p d drives. given_is p (kept_by p) (before.held p) d drives },
        )
    next_state (change p value) is = (
      moved p value (before.held p),
      record { input = is; gets = moved_now p value (before.held p); holds = moved_held p value (before.held p); others = moved_others p value (before.held p) },
    )

  pub leads_on : (events : List Event) → All (IsEvent text) events → (before : State) → (after : State) × AreSteps (IsStep text) events before after
  leads_on [] all before = (before, refl)
  leads_on (event ∷ events) all before =
      let first = next_state before event (All-head (IsEvent text) event events all) in
      let rest = leads_on events (All-tail (IsEvent text) event events all) first.0 in
      (rest.0, (first.0, first.1, rest.1))

pub events_lead_on : EventsLeadOn
events_lead_on text once events all before = leads_on text once events all before

-- ---- there is no other

pub events_leave_one : EventsLeaveOne
events_leave_one text sound (activate p) before after other first second q declared =
    elim (cases_Bool (same_point p q)) [
      | inl here ↦ (
          let same : p ≡ q = same_point_is p q here in
          let own = has_one_driver text sound p (subst (λ (r : Point). is_declared text r ≡ true) (sym same) declared) in
          let now_same : after.now p ≡ other.now p = first.takes own.0 own.1 ∙ sym (second.takes own.0 own.1) in
          let held_same : after.held p ≡ other.held p =
          first.holds own.0 own.1 ∙ ap (held_after own.0 (before.held p)) now_same ∙ sym (second.holds own.0 own.1) in
          subst (λ (r : Point). IsSameAt r after other) same (sym now_same, sym held_same))
      | inr apart ↦ (
          let a = first.others q (λ e. another p q apart (sym e)) in
          let b = second.others q (λ e. another p q apart (sym e)) in
          (b.0 ∙ sym a.0, b.1 ∙ sym a.1))
    ]
events_leave_one text sound (tick clock) before after other first second q declared =
    let own = has_one_driver text sound q declared in
    (second.stays q ∙ sym (first.stays q), second.keeps q own.0 own.1 ∙ sym (first.keeps q own.0 own.1))
events_leave_one text sound (change p value) before after other first second q declared =
    elim (cases_Bool (same_point p q)) [
      | inl here ↦
          subst (λ (r : Point). IsSameAt r after other) (same_point_is p q here) (second.gets ∙ sym first.gets, second.holds ∙ sym first.holds)
      | inr apart ↦ (
          let a = first.others q (λ e. another p q apart (sym e)) in
          let b = second.others q (λ e. another p q apart (sym e)) in
          (b.0 ∙ sym a.0, b.1 ∙ sym a.1))
    ]
