-- Ranked sets of points settle once, and blocks of activations settle them.
use Rattle.std.proofs.Common.{◌≡◌, ◌≢◌, ℕ, ◌≤◌, Bool, true, false, List, [], ◌∷◌, length, All, refl, sym, ap, ◌∙◌, subst, inl, inr}
use Rattle.std.proofs.lemmas.Bool.{cases_Bool, false≢true}
use Rattle.fab_syntax.specs.Plain.{PlainModule}
use Rattle.fab_systems_laws.specs.System.{AgreeOn, ReadsOnly}
use Rattle.fab_systems_laws.specs.System.{IsSettledOn as IsSystemSettled}
use Rattle.fab_systems_laws.specs.Steps.{IsBlock, blocks_then}
use Rattle.fab_systems_laws.proofs.Rounds.{rounds}
use Rattle.fab_systems_laws.proofs.Runs.{Run}
use Rattle.fab_systems_laws.proofs.Solutions.{settled_by_rounds, settled_agree}
use Rattle.fab_systems_laws.proofs.States.{states_settle}
use Rattle.fab_meaning.specs.Points.{Point, Driver, outside, copy, bit_of, flop, hold, Drives}
use Rattle.fab_meaning.specs.Settled.{Assignment, shown, IsSettledOn}
use Rattle.fab_meaning.specs.Runs.{kept}
use Rattle.fab_meaning.specs.Reads.{reads, same_point}
use Rattle.fab_meaning.specs.Activation.{State, Event, activate, tick, change, held_after, AreSteps}
use Rattle.fab_meaning.specs.Ranked.{IsIn, AreDrivenBy, AreRanked, IsSteady, IsOffClock, activates, IsStepBeside}
use Rattle.fab_meaning.proofs.Dependence.{shown_same, same_point_refl, same_point_is}

-- a steady driver heeds neither inputs nor what others hold
steady_shown : (text : List PlainModule) (inputs later held after now : Assignment) (p : Point) (d : Driver) → IsSteady d → held p ≡ after p →
    shown text inputs held now p d ≡ shown text later after now p d
steady_shown text inputs later held after now p outside steady e = absurd steady
steady_shown text inputs later held after now p (copy other) steady e = refl
steady_shown text inputs later held after now p (bit_of path x bit) steady e = refl
steady_shown text inputs later held after now p (flop path clock next bit) steady e = e
steady_shown text inputs later held after now p (hold path gate x bit) steady e = absurd steady

-- and holds the same after an activation
steady_held : (d : Driver) (held now : Bool) → IsSteady d → held_after d held now ≡ held
steady_held outside held now steady = absurd steady
steady_held (copy other) held now steady = refl
steady_held (bit_of path x bit) held now steady = refl
steady_held (flop path clock next bit) held now steady = refl
steady_held (hold path gate x bit) held now steady = absurd steady

-- and after a tick of another clock
steady_kept : (text : List PlainModule) (clock : List ℕ) (held now : Assignment) (p : Point) (d : Driver) → IsSteady d → IsOffClock text clock d →
    kept text clock held now p d ≡ held p
steady_kept text clock held now p outside steady off = absurd steady
steady_kept text clock held now p (copy other) steady off = refl
steady_kept text clock held now p (bit_of path x bit) steady off = refl
steady_kept text clock held now p (flop path own next bit) steady off = rw off refl
steady_kept text clock held now p (hold path gate x bit) steady off = absurd steady

not_outside : (d : Driver) → outside ≡ d → IsSteady d → ⊥
not_outside outside e steady = steady
not_outside (copy other) e steady = cc
not_outside (bit_of path x bit) e steady = cc
not_outside (flop path clock next bit) e steady = cc
not_outside (hold path gate x bit) e steady = steady

module _ (text : List PlainModule) (has given : Point → Bool) (driver : Point → Driver) (rank : Point → ℕ) (ranks : ℕ)
    (driven : AreDrivenBy text has driver) (ranked : AreRanked text has given driver rank ranks) (inputs held : Assignment) where
  -- what a point shows by its one driver
  abbrev next : Point → Assignment → Bool
  next p now = shown text inputs held now p (driver p)

  reads_only : ReadsOnly has (λ p. reads text (driver p)) next
  reads_only p a b h agree = shown_same text inputs held a b p (driver p) agree

  as_system : (now : Assignment) → IsSettledOn (IsIn has) text inputs held now → IsSystemSettled has next now
  as_system now s p h = s p (driver p) h (driven.each p h)

  from_system : (now : Assignment) → IsSystemSettled has next now → IsSettledOn (IsIn has) text inputs held now
  from_system now s p d h drives = s p h ∙ ap (shown text inputs held now p) (sym (driven.only p d h drives))

  -- as many rounds as there are ranks settle the set
  pub some_settled : (old : Assignment) → (new : Assignment) × IsSettledOn (IsIn has) text inputs held new × ((p : Point) → has p ≡ false → new p ≡ old p)
  some_settled old =
      let is = settled_by_rounds has given (λ p. reads text (driver p)) rank ranks next ranked reads_only old in
      (rounds has next old ranks, from_system (rounds has next old ranks) is.settled, is.others)

  pub one_settled : (a b : Assignment) → IsSettledOn (IsIn has) text inputs held a → IsSettledOn (IsIn has) text inputs held b → AgreeOn given a b → AgreeOn has a b
  one_settled a b s t agree =
      settled_agree has given (λ p. reads text (driver p)) rank ranks next ranked reads_only a b (as_system a s) (as_system b t) agree

  -- ---- blocks of activations

  module _ (steady : (p : Point) → has p ≡ true → IsSteady (driver p)) where
    abbrev Step : Event → State → State → Type 0
    Step = IsStepBeside text has given driver

    -- given points stand right, and the set's flip-flops hold what they held
    abbrev Ready : Assignment → State → Type 0
    Ready settled s = AgreeOn given s.now settled × AgreeOn has s.held held

    another : (p q : Point) → same_point p q ≡ false → q ≢ p
    another p q f e = false≢true (sym f ∙ (ap (same_point p) e ∙ same_point_refl p))

    -- an input of the top is no point of the set
    no_input : (p q : Point) → Drives text q outside → has p ≡ true → p ≢ q
    no_input p q by h e =
        let same : Drives text p outside = subst (λ (x : Point). Drives text x outside) (sym e) by in
        not_outside (driver p) (driven.only p outside h same) (steady p h)

    keeps : (event : Event) (s t : State) (p : Point) → Step event s t → has p ≡ true → activates event p ≡ false → t.now p ≡ s.now p
    keeps (activate q) s t p d h f = (d.step.others p (another q p f)).0
    keeps (tick clock) s t p d h f = d.step.stays p
    keeps (change q value) s t p d h f = (d.step.others p (no_input p q (inl d.step.input) h)).0

    takes : (event : Event) (s t : State) (p : Point) → AgreeOn has s.held held → Step event s t → has p ≡ true → activates event p ≡ true → t.now p ≡ next p s.now
    takes (activate q) s t p r d h a =
        let same : q ≡ p = same_point_is q p a in
        let by : Drives text q (driver p) = subst (λ (x : Point). Drives text x (driver p)) (sym same) (driven.each p h) in
        let taken : t.now q ≡ shown text s.now s.held s.now q (driver p) = d.step.takes (driver p) by in
        subst (λ (x : Point). t.now x ≡ shown text s.now s.held s.now x (driver p)) same taken
        ∙ steady_shown text s.now inputs s.held held s.now p (driver p) (steady p h) (r p h)
    takes (tick clock) s t p r d h a = absurd (false≢true a)
    takes (change q value) s t p r d h a = absurd (false≢true a)

    holds_on : (event : Event) (s t : State) (p : Point) → Step event s t → has p ≡ true → t.held p ≡ s.held p
    holds_on (activate q) s t p d h =
        elim (cases_Bool (same_point q p)) [
          | inl a ↦ (
              let same : q ≡ p = same_point_is q p a in
              let by : Drives text q (driver p) = subst (λ (x : Point). Drives text x (driver p)) (sym same) (driven.each p h) in
              let kept_on : t.held q ≡ s.held q = d.step.holds (driver p) by ∙ steady_held (driver p) (s.held q) (t.now q) (steady p h) in
              subst (λ (x : Point). t.held x ≡ s.held x) same kept_on)
          | inr f ↦ (d.step.others p (another q p f)).1
        ]
    holds_on (tick clock) s t p d h =
        d.step.keeps p (driver p) (driven.each p h) ∙ steady_kept text clock s.held s.now p (driver p) (steady p h) (d.clocks p h)
    holds_on (change q value) s t p d h = (d.step.others p (no_input p q (inl d.step.input) h)).1

    ready_on : (settled : Assignment) (event : Event) (s t : State) → Ready settled s → Step event s t → Ready settled t
    ready_on settled event s t r d = ((λ q g. d.stay q g ∙ r.0 q g), λ p h. holds_on event s t p d h ∙ r.1 p h)

    as_run : (events : List Event) (s t : State) → AreSteps Step events s t → Run Step events s t
    as_run [] s t r = r
    as_run (event ∷ events) s t r = (r.0, r.1, as_run events r.0 t r.2)

    pub steps_settle : (before after : State) (settled : Assignment) → AgreeOn has before.held held →
        IsSettledOn (IsIn has) text inputs held settled → AgreeOn given before.now settled →
        (blocks : List (List Event)) (more : List Event) → All (IsBlock activates has) blocks → ranks ≤ length blocks →
        AreSteps Step (blocks_then blocks more) before after → AgreeOn has after.now settled
    steps_settle before after settled hold_same s agree blocks more all enough steps =
        states_settle has given (λ p. reads text (driver p)) rank ranks next ranked reads_only settled (as_system settled s)
        (λ (u : State) p. u.now p) Step activates (Ready settled) (ready_on settled) (λ u r. r.0)
        (λ event u v p r d h f. keeps event u v p d h f) (λ event u v p r d h a. takes event u v p r.1 d h a)
        blocks more before after (as_run (blocks_then blocks more) before after steps) (agree, hold_same) all enough
