-- Steps that load nothing leave the loading points as they are.
use Rattle.std.proofs.Common.{◌≡◌, ◌≢◌, ◌⊎◌, ℕ, Bool, true, false, List, [], ◌∷◌, if◌then◌else◌, refl, sym, ap, ◌∙◌, subst, inl, inr}
use Rattle.std.proofs.lemmas.Bool.{cases_Bool, false≢true}
use Rattle.fab_syntax.specs.Plain.{PlainModule}
use Rattle.fab_systems_laws.specs.System.{AgreeOn}
use Rattle.fab_meaning.specs.Value.{value, bit_at}
use Rattle.fab_meaning.specs.Points.{Point, Driver, outside, copy, bit_of, flop, hold, Drives}
use Rattle.fab_meaning.specs.Settled.{Assignment, names_at, shown}
use Rattle.fab_meaning.specs.Runs.{clock_name, kept}
use Rattle.fab_meaning.specs.Reads.{reads, same_point}
use Rattle.fab_meaning.specs.Activation.{State, Event, activate, tick, change, held_after, AreSteps}
use Rattle.fab_meaning.specs.Loading.{IsStream, IsDerived, Within, by_flop, by_stream, by_reads, IsClosed, IsLoading}
use Rattle.fab_meaning.specs.Ranked.{IsStepBeside}
use Rattle.fab_meaning.specs.Loaded.{IsUserStep, IsLoaded, IsUserStepBeside}
use Rattle.fab_meaning.proofs.Declared.{bytes_apart}
use Rattle.fab_meaning.proofs.Dependence.{shown_same, same_point_refl, same_point_is}
use Rattle.fab_meaning.proofs.Loaded.{hold_again}

abbrev IsLatch : Driver → Type 0
IsLatch outside = ⊥
IsLatch (copy other) = ⊥
IsLatch (bit_of path e bit) = ⊥
IsLatch (flop path clock next bit) = ⊥
IsLatch (hold path gate e bit) = Unit {0}

-- what is held after a step is what was held, or, for a latch, what its point had
abbrev HoldsOn : Driver → (held now next : Bool) → Type 0
HoldsOn d held now next = (next ≡ held) ⊎ (IsLatch d × (next ≡ now))

after_activation : (d : Driver) (held now : Bool) → HoldsOn d held now (held_after d held now)
after_activation outside held now = inl refl
after_activation (copy other) held now = inl refl
after_activation (bit_of path e bit) held now = inl refl
after_activation (flop path clock next bit) held now = inl refl
after_activation (hold path gate e bit) held now = inr (tt, refl)

derived_after_tick : (text : List PlainModule) (clock : List ℕ) (held now : Assignment) (p : Point) (d : Driver) → IsDerived d →
    HoldsOn d (held p) (now p) (kept text clock held now p d)
derived_after_tick text clock held now p outside derived = absurd derived
derived_after_tick text clock held now p (copy other) derived = inl refl
derived_after_tick text clock held now p (bit_of path e bit) derived = inl refl
derived_after_tick text clock held now p (flop path own next bit) derived = absurd derived
derived_after_tick text clock held now p (hold path gate e bit) derived = inr (tt, refl)

-- a driver goes on showing what its point has, where the points that it reads stand still
shown_on : (text : List PlainModule) (held next now last : Assignment) (p : Point) (d : Driver) → now p ≡ shown text now held now p d →
    last p ≡ now p → ((q : Point) → reads text d q ≡ true → now q ≡ last q) → HoldsOn d (held p) (now p) (next p) → last p ≡ shown text last next last p d
shown_on text held next now last p outside s e r h = refl
shown_on text held next now last p (copy other) s e r h = e ∙ s ∙ shown_same text now held now last p (copy other) r
shown_on text held next now last p (bit_of path x bit) s e r h = e ∙ s ∙ shown_same text now held now last p (bit_of path x bit) r
shown_on text held next now last p (flop path clock x bit) s e r (inl h) = e ∙ s ∙ sym h
shown_on text held next now last p (flop path clock x bit) s e r (inr h) = absurd h.0
shown_on text held next now last p (hold path gate x bit) s e r (inl h) =
    e ∙ s ∙ shown_same text now held now last p (hold path gate x bit) r
    ∙ ap (λ v. if bit_at (value (names_at text last path) gate) 0 then bit_at (value (names_at text last path) x) bit else v) (sym h)
shown_on text held next now last p (hold path gate x bit) s e r (inr h) =
    e ∙ hold_again (bit_at (value (names_at text last path) gate) 0) (bit_at (value (names_at text last path) x) bit) (held p) (next p) (now p) (now p)
    (s ∙ shown_same text now held now last p (hold path gate x bit) r) refl h.1

module _ (text : List PlainModule) (single : (p : Point) (d e : Driver) → Drives text p d → Drives text p e → d ≡ e) where
  module _ (flops : Point → Bool) (closed : IsClosed text flops) where
    some_driver : (p : Point) → Within text flops p → (d : Driver) × Drives text p d
    some_driver p (by_flop declared f) = let c = closed p f in (flop c.path c.clock c.next c.bit, c.drives)
    some_driver p (by_stream is) = (outside, inl is.input)
    some_driver p (by_reads d declared drives derived inside) = (d, drives)

    -- the one driver of a point reads points of the set
    reads_inside : (p : Point) → Within text flops p → (d : Driver) → Drives text p d → (q : Point) → reads text d q ≡ true → Within text flops q
    reads_inside p (by_flop declared f) d drives q r =
        let c = closed p f in
        let e : flop c.path c.clock c.next c.bit ≡ d = single p (flop c.path c.clock c.next c.bit) d c.drives drives in
        absurd (false≢true (ap (λ x. reads text x q) e ∙ r))
    reads_inside p (by_stream is) d drives q r =
        absurd (false≢true (ap (λ x. reads text x q) (single p outside d (inl is.input) drives) ∙ r))
    reads_inside p (by_reads own declared by derived inside) d drives q r = inside q (ap (λ x. reads text x q) (single p own d by drives) ∙ r)

    -- an input of the top in the set carries words
    input_carries : (p : Point) → Within text flops p → Drives text p outside → IsStream text p
    input_carries p (by_flop declared f) by = let c = closed p f in let e = single p outside (flop c.path c.clock c.next c.bit) by c.drives in cc
    input_carries p (by_stream is) by = is
    input_carries p (by_reads d declared drives derived inside) by = absurd (subst IsDerived (single p d outside drives by) derived)

    -- a tick of another clock than CLK
    after_tick : (clock : List ℕ) → clock ≢ clock_name → (held now : Assignment) (p : Point) → Within text flops p → (d : Driver) → Drives text p d →
        HoldsOn d (held p) (now p) (kept text clock held now p d)
    after_tick clock other held now p (by_flop declared f) d drives =
        let c = closed p f in
        let e : flop c.path c.clock c.next c.bit ≡ d = single p (flop c.path c.clock c.next c.bit) d c.drives drives in
        let still : kept text clock held now p (flop c.path c.clock c.next c.bit) ≡ held p =
        rw (c.clocked, bytes_apart clock_name clock (λ x. other (sym x))) refl in
        inl (subst (λ (x : Driver). kept text clock held now p x ≡ held p) e still)
    after_tick clock other held now p (by_stream is) d drives =
        inl (subst (λ (x : Driver). kept text clock held now p x ≡ held p) (single p outside d (inl is.input) drives) refl)
    after_tick clock other held now p (by_reads own declared by derived inside) d drives =
        subst (λ (x : Driver). HoldsOn x (held p) (now p) (kept text clock held now p x)) (single p own d by drives) (derived_after_tick text clock held now p own derived)

  changed_apart : (p q : Point) → IsLoading text p → Drives text q outside → (IsStream text q → ⊥) → p ≢ q
  changed_apart p q l by no_stream e =
      no_stream (input_carries l.0 l.1 q (subst (Within text l.0) e l.2) by)

  another : (p q : Point) → same_point p q ≡ false → q ≢ p
  another p q f e = false≢true (sym f ∙ (ap (same_point p) e ∙ same_point_refl p))

  stands : (event : Event) (s t : State) → IsLoaded text s → IsUserStep text event s t → (p : Point) → IsLoading text p → t.now p ≡ s.now p
  stands (activate q) s t loaded d p l =
      elim (cases_Bool (same_point q p)) [
        | inl a ↦ (
            let same : q ≡ p = same_point_is q p a in
            let by = some_driver l.0 l.1 p l.2 in
            let taken : t.now q ≡ shown text s.now s.held s.now q by.0 = d.step.takes by.0 (subst (λ (x : Point). Drives text x by.0) (sym same) by.1) in
            subst (λ (x : Point). t.now x ≡ shown text s.now s.held s.now x by.0) same taken ∙ sym (loaded p by.0 l by.1))
        | inr f ↦ (d.step.others p (another q p f)).0
      ]
  stands (tick clock) s t loaded d p l = d.step.stays p
  stands (change q value) s t loaded d p l = (d.step.others p (changed_apart p q l (inl d.step.input) d.kind)).0

  holds_on : (event : Event) (s t : State) → IsLoaded text s → IsUserStep text event s t → (p : Point) → IsLoading text p → (d : Driver) → Drives text p d →
      HoldsOn d (s.held p) (s.now p) (t.held p)
  holds_on (activate q) s t loaded step p l d drives =
      elim (cases_Bool (same_point q p)) [
        | inl a ↦ (
            let same : q ≡ p = same_point_is q p a in
            let held_there : t.held q ≡ held_after d (s.held q) (t.now q) = step.step.holds d (subst (λ (x : Point). Drives text x d) (sym same) drives) in
            let held_here : t.held p ≡ held_after d (s.held p) (s.now p) =
            subst (λ (x : Point). t.held x ≡ held_after d (s.held x) (t.now x)) same held_there
            ∙ ap (held_after d (s.held p)) (stands (activate q) s t loaded step p l) in
            subst (HoldsOn d (s.held p) (s.now p)) (sym held_here) (after_activation d (s.held p) (s.now p)))
        | inr f ↦ inl (step.step.others p (another q p f)).1
      ]
  holds_on (tick clock) s t loaded step p l d drives =
      subst (HoldsOn d (s.held p) (s.now p)) (sym (step.step.keeps p d drives)) (after_tick l.0 l.1 clock step.kind s.held s.now p l.2 d drives)
  holds_on (change q value) s t loaded step p l d drives = inl (step.step.others p (changed_apart p q l (inl step.step.input) step.kind)).1

  loaded_on : (event : Event) (s t : State) → IsLoaded text s → IsUserStep text event s t → IsLoaded text t
  loaded_on event s t loaded step p d l drives =
      shown_on text s.held t.held s.now t.now p d (loaded p d l drives) (stands event s t loaded step p l)
      (λ q r. sym (stands event s t loaded step q (l.0, l.1, reads_inside l.0 l.1 p l.2 d drives q r)))
      (holds_on event s t loaded step p l d drives)

  -- by induction on the steps
  pub user_steps : (events : List Event) (s t : State) → IsLoaded text s → AreSteps (IsUserStep text) events s t →
      IsLoaded text t × ((p : Point) → IsLoading text p → t.now p ≡ s.now p)
  user_steps [] s t loaded steps = subst (λ (u : State). IsLoaded text u × ((p : Point) → IsLoading text p → u.now p ≡ s.now p)) steps (loaded, λ p l. refl)
  user_steps (event ∷ events) s t loaded steps =
      let rest = user_steps events steps.0 t (loaded_on event s steps.0 loaded steps.1) steps.2 in
      (rest.0, λ p l. rest.1 p l ∙ stands event s steps.0 loaded steps.1 p l)

  -- so they are steps that leave given points alone
  given_stay : (has given : Point → Bool) (driver : Point → Driver) (event : Event) (s t : State) → IsLoaded text s → IsUserStepBeside text has given driver event s t →
      AgreeOn given t.now s.now
  given_stay has given driver event s t loaded step p g = elim (step.stay p g) [ inl l ↦ stands event s t loaded step.user p l | inr e ↦ e ]

  pub steps_beside : (has given : Point → Bool) (driver : Point → Driver) (events : List Event) (s t : State) → IsLoaded text s →
      AreSteps (IsUserStepBeside text has given driver) events s t → AreSteps (IsStepBeside text has given driver) events s t
  steps_beside has given driver [] s t loaded steps = steps
  steps_beside has given driver (event ∷ events) s t loaded steps =
      let user : IsUserStep text event s steps.0 = steps.1.user in (
        steps.0,
        record { step = user.step; clocks = steps.1.clocks; stay = given_stay has given driver event s steps.0 loaded steps.1 },
        steps_beside has given driver events steps.0 t (loaded_on event s steps.0 loaded user) steps.2,
      )
