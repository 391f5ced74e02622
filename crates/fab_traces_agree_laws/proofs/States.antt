-- States that are alike at the declared points, and that single steps keep them so.
use Rattle.std.proofs.Common.{◌≡◌, ◌≢◌, ℕ, Bool, true, false, List, [], ◌∷◌, map, if◌then◌else◌, refl, sym, ap, ◌∙◌, subst, inl, inr}
use Rattle.std.proofs.lemmas.Bool.{cases_Bool, false≢true}
use Rattle.fab_syntax.specs.Plain.{PlainModule}
use Rattle.fab_syntax.specs.Sound.{IsSound}
use Rattle.fab_systems_laws.specs.Ternary.{known}
use Rattle.fab_meaning.specs.Value.{value, bit_at}
use Rattle.fab_meaning.specs.Points.{Path, Point, point, Driver, outside, copy, bit_of, flop, hold, Drives, IsStored}
use Rattle.fab_meaning.specs.Settled.{Assignment, names_at, shown}
use Rattle.fab_meaning.specs.Reads.{is_declared, same_point}
use Rattle.fab_meaning.specs.Runs.{user_clock_name, clock_of, is_clock, kept}
use Rattle.fab_meaning.specs.Sound.{PointsOfSoundTextsHaveOneDriver}
use Rattle.fab_meaning.specs.Activation.{State, activate, held_after, IsActivation, IsStep, AreSteps}
use Rattle.fab_meaning.proofs.Dependence.{same_point_refl, same_point_is, expression_same}
use Rattle.fab_load_points.proofs.Bits.{copied_bit, copied_declared}
use Rattle.fab_load_points.proofs.Steps.{expression_declared}
use Rattle.fab_ternary_laws.specs.Shown.{Terns}
use Rattle.fab_solutions_laws.specs.Solutions.{tern_given, Solves, IsLeastSolution}
use Rattle.fab_solutions_laws.specs.Laws.{LeastSolutionsAgree}
use Rattle.fab_ordering_laws.specs.Ordered.{IsUserTick}

-- what is known is known as one value
pub known_once : (a b : Bool) → known a ≡ known b → a ≡ b
known_once true true same = refl
known_once true false same = absurd cc
known_once false true same = absurd cc
known_once false false same = refl

module _ (text : List PlainModule) (sound : IsSound text) where
  -- The declared points have the same, and their flip-flops and latches hold the same. What other points hold is nowhere used.
  pub record AreAlike (a b : State) : Type 0 where
    pub now : (p : Point) → is_declared text p ≡ true → a.now p ≡ b.now p
    pub held : (p : Point) (d : Driver) → is_declared text p ≡ true → Drives text p d → IsStored d → a.held p ≡ b.held p

  -- ---- what a driver gives

  value_alike : (a b : Assignment) → ((p : Point) → is_declared text p ≡ true → a p ≡ b p) → (path : Path) (e : _) → value (names_at text a path) e ≡ value (names_at text b path) e
  value_alike a b same path e = expression_same text a b path e (λ q reads. same q (expression_declared text path e q reads))

  copied_too : (p other : Point) → is_declared text p ≡ true → Drives text p (copy other) → is_declared text other ≡ true
  copied_too p other declared drives =
      let bits : other.bit ≡ p.bit = copied_bit text p other drives in
      subst (λ (b : ℕ). is_declared text (point other.path other.name b) ≡ true) (sym bits) (copied_declared text sound p other p.bit drives declared)

  module _ (a b : State) (alike : AreAlike a b) where
    shown_alike : (p : Point) (d : Driver) → is_declared text p ≡ true → Drives text p d → shown text a.now a.held a.now p d ≡ shown text b.now b.held b.now p d
    shown_alike p outside declared drives = alike.now p declared
    shown_alike p (copy other) declared drives = alike.now other (copied_too p other declared drives)
    shown_alike p (bit_of path e bit) declared drives = ap (λ bits. bit_at bits bit) (value_alike a.now b.now alike.now path e)
    shown_alike p (flop path clock next bit) declared drives = alike.held p (flop path clock next bit) declared drives tt
    shown_alike p (hold path gate e bit) declared drives =
        let gates = value_alike a.now b.now alike.now path gate in
        let values = value_alike a.now b.now alike.now path e in
        let held = alike.held p (hold path gate e bit) declared drives tt in
        λ i. if bit_at (gates i) 0 then bit_at (values i) bit else held i

    -- what a tick of UserCLK leaves with a flip-flop or a latch
    kept_alike : (p : Point) (d : Driver) → is_declared text p ≡ true → Drives text p d → IsStored d
        → kept text user_clock_name a.held a.now p d ≡ kept text user_clock_name b.held b.now p d
    kept_alike p outside declared drives stored = absurd stored
    kept_alike p (copy other) declared drives stored = absurd stored
    kept_alike p (bit_of path e bit) declared drives stored = absurd stored
    kept_alike p (flop path clock next bit) declared drives stored =
        let values = value_alike a.now b.now alike.now path next in
        let held = alike.held p (flop path clock next bit) declared drives tt in
        λ i. if is_clock user_clock_name (clock_of text path clock) then bit_at (values i) bit else held i
    kept_alike p (hold path gate e bit) declared drives stored = alike.now p declared

    -- ---- a tick of UserCLK

    pub ticked_alike : (c d : State) → IsUserTick text a c → IsUserTick text b d → AreAlike c d
    ticked_alike c d first second = record {
      now = λ p declared. first.stays p ∙ alike.now p declared ∙ sym (second.stays p);
      held = λ p driver declared drives stored. first.keeps p driver declared drives ∙ kept_alike p driver declared drives stored ∙ sym (second.keeps p driver declared drives);
    }

    -- ---- an activation

    module _ (one : PointsOfSoundTextsHaveOneDriver) (q : Point) (c d : State) (first : IsActivation text q a c) (second : IsActivation text q b d) where
      apart : (p : Point) → same_point q p ≡ false → p ≢ q
      apart p other same = false≢true (sym other ∙ ap (same_point q) same ∙ same_point_refl q)

      now_here : is_declared text q ≡ true → c.now q ≡ d.now q
      now_here declared =
          let driver = one text sound q declared in
          first.takes driver.0 driver.1 ∙ shown_alike q driver.0 declared driver.1 ∙ sym (second.takes driver.0 driver.1)

      now_alike : (p : Point) → is_declared text p ≡ true → c.now p ≡ d.now p
      now_alike p declared = elim (cases_Bool (same_point q p)) [
        | inr other ↦ (first.others p (apart p other)).0 ∙ alike.now p declared ∙ sym (second.others p (apart p other)).0
        | inl here ↦ (
            let same : q ≡ p = same_point_is q p here in
            subst (λ (r : Point). c.now r ≡ d.now r) same (now_here (subst (λ (r : Point). is_declared text r ≡ true) (sym same) declared)))
      ]

      held_after_alike : (driver : Driver) → is_declared text q ≡ true → Drives text q driver → IsStored driver
          → held_after driver (a.held q) (c.now q) ≡ held_after driver (b.held q) (d.now q)
      held_after_alike outside declared drives stored = absurd stored
      held_after_alike (copy other) declared drives stored = absurd stored
      held_after_alike (bit_of path e bit) declared drives stored = absurd stored
      held_after_alike (flop path clock next bit) declared drives stored = alike.held q (flop path clock next bit) declared drives tt
      held_after_alike (hold path gate e bit) declared drives stored = now_here declared

      held_here : (driver : Driver) → is_declared text q ≡ true → Drives text q driver → IsStored driver → c.held q ≡ d.held q
      held_here driver declared drives stored = first.holds driver drives ∙ held_after_alike driver declared drives stored ∙ sym (second.holds driver drives)

      held_alike : (p : Point) (driver : Driver) → is_declared text p ≡ true → Drives text p driver → IsStored driver → c.held p ≡ d.held p
      held_alike p driver declared drives stored = elim (cases_Bool (same_point q p)) [
        | inr other ↦ (first.others p (apart p other)).1 ∙ alike.held p driver declared drives stored ∙ sym (second.others p (apart p other)).1
        | inl here ↦ (
            let same : q ≡ p = same_point_is q p here in
            let there : is_declared text q ≡ true = subst (λ (r : Point). is_declared text r ≡ true) (sym same) declared in
            subst (λ (r : Point). c.held r ≡ d.held r) same (held_here driver there (subst (λ (r : Point). Drives text r driver) (sym same) drives) stored))
      ]

      pub activated_alike : AreAlike c d
      activated_alike = record { now = now_alike; held = held_alike }

  -- activations of the same points, one after the other
  pub activations_alike : (one : PointsOfSoundTextsHaveOneDriver) (ps : List Point) (a b c d : State) → AreAlike a b → AreSteps (IsStep text) (map activate ps) a c
      → AreSteps (IsStep text) (map activate ps) b d → AreAlike c d
  activations_alike one [] a b c d alike first second = subst (λ (s : State). AreAlike s d) first (subst (λ (s : State). AreAlike a s) second alike)
  activations_alike one (q ∷ ps) a b c d alike (between, step, steps) (middle, other, others) =
      activations_alike one ps between middle c d (activated_alike a b alike one q between middle step other) steps others

  -- ---- the least solution of a cycle

  module _ (a b : State) (alike : AreAlike a b) where
    abbrev inputs_of : State → Terns
    inputs_of s p = known (s.now p)

    abbrev held_of : State → Terns
    held_of s p = known (s.held p)

    given_alike : (t : Terns) (p : Point) (d : Driver) → is_declared text p ≡ true → Drives text p d
        → tern_given text (inputs_of a) (held_of a) t p d ≡ tern_given text (inputs_of b) (held_of b) t p d
    given_alike t p outside declared drives = ap known (alike.now p declared)
    given_alike t p (copy other) declared drives = refl
    given_alike t p (bit_of path e bit) declared drives = refl
    given_alike t p (flop path clock next bit) declared drives = ap known (alike.held p (flop path clock next bit) declared drives tt)
    given_alike t p (hold path gate e bit) declared drives =
        let held : held_of a p ≡ held_of b p = ap known (alike.held p (hold path gate e bit) declared drives tt) in
        λ i. tern_given text (inputs_of a) (λ q. held i) t p (hold path gate e bit)

    solves_too : (t : Terns) → Solves text (inputs_of a) (held_of a) t → Solves text (inputs_of b) (held_of b) t
    solves_too t solves p d declared drives = solves p d declared drives ∙ given_alike t p d declared drives

    solves_back : (t : Terns) → Solves text (inputs_of b) (held_of b) t → Solves text (inputs_of a) (held_of a) t
    solves_back t solves p d declared drives = solves p d declared drives ∙ sym (given_alike t p d declared drives)

    pub solutions_alike : LeastSolutionsAgree → (t u : Terns) → IsLeastSolution text (inputs_of a) (held_of a) t → IsLeastSolution text (inputs_of b) (held_of b) u
        → (p : Point) → is_declared text p ≡ true → t p ≡ u p
    solutions_alike agree t u first second =
        agree text (inputs_of b) (held_of b) t u (record { solves = solves_too t first.solves; least = λ v solves. first.least v (solves_back v solves) }) second
