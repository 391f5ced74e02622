-- Steps of a board are steps of the state for which it stands.
use Rattle.std.proofs.Common.{◌≡◌, ◌≢◌, ℕ, ◌<◌, Bool, true, false, List, [], ◌∷◌, Option, Some, suc, length, map, if◌then◌else◌, refl, sym, ap, ◌∙◌, subst, inl, inr, arith}
use Rattle.std.specs.List.{slice_get, All, AllZip}
use Rattle.std.proofs.lemmas.Bool.{cases_Bool, cases_eq}
use Rattle.std.proofs.lemmas.Option.{slice_get_within}
use Rattle.fab_syntax.specs.Plain.{PlainModule}
use Rattle.fab_syntax.specs.Sound.{IsSound}
use Rattle.fab_systems_laws.specs.Ternary.{known, Tern as PlainTern}
use Rattle.fab_meaning.specs.Points.{Point, Driver, outside, copy, bit_of, flop, hold, Drives, IsStored}
use Rattle.fab_meaning.specs.Settled.{Assignment, shown}
use Rattle.fab_meaning.specs.Reads.{is_declared, same_point}
use Rattle.fab_meaning.specs.Activation.{State, activate, held_after, IsActivation, IsStep, AreSteps}
use Rattle.fab_meaning.specs.Sound.{HasOneDriver, PointsOfSoundTextsHaveOneDriver}
use Rattle.fab_meaning.proofs.Dependence.{same_point_refl, same_point_is}
use Rattle.fab_ternary_laws.specs.Shown.{tern_shown, through}
use Rattle.fab_ternary_laws.proofs.Drivers.{driver_known}
use Rattle.fab_equations.specs.Instances.{points}
use Rattle.fab_equations.specs.Equations.{IsPoint}
use Rattle.fab_equations.proofs.Numbering.{same_value, some_there}
use Rattle.fab_equations.proofs.Points.{points_are_declared, points_differ}
use Rattle.fab_compiled.specs.declared.tree.Tree.{Tree}
use Rattle.fab_compiled.specs.Leading.{PointTerns}
use Rattle.fab_compiled.specs.Values.{AreByNumber}
use Rattle.fab_network.specs.declared.network.Drive.{Drive}
use Rattle.fab_network.specs.declared.network.Drive.TheVariants.{Given, Flop, Same, Value, Hold}
use Rattle.fab_network.specs.declared.network.Network.{Network}
use Rattle.fab_network.specs.Passes.{kept_tern}
use Rattle.fab_network.specs.Solved.{asked_by, asked_tern}
use Rattle.fab_wiring.specs.Wiring.{AreDrives, IsDriveOf}
use Rattle.fab_wiring.specs.Given.{given_at}
use Rattle.fab_wiring.proofs.Solved.{point_there}
use Rattle.fab_stepping.specs.declared.board.Board.{Board}
use Rattle.fab_stepping.specs.Boards.{given_on, shown_on, IsBoardOf, LeadToThemselves}
use Rattle.fab_stepping.specs.Activating.{held_by, AreActivated, IsActivated}
use Rattle.fab_stepping.specs.Standing.{StandsFor}
use Rattle.fab_stepping.proofs.Reading.{board_shown}

module _ (text : List PlainModule) (trees : List Tree) (now held : Assignment) (s : PointTerns) (same : AreByNumber text (λ p. known (now p)) s) where
  -- what a drive asks of its point is what its driver gives it
  asked_is : (number : ℕ) (p : Point) (d : Driver) (drive : Drive) (kept : PlainTern) → IsPoint text number p → IsDriveOf text trees d drive →
      (IsStored d → kept ≡ known (held p)) →
      asked_by trees (given_at (Some drive) (s number) kept) s (Some drive) ≡ tern_shown text now held (λ q. known (now q)) p d
  asked_is number p outside Given kept is of holds = same number p is
  asked_is number p (copy other) (Same n) kept is of holds = same n other of
  asked_is number p (bit_of path e bit) (Value source) kept is of holds = of.value (λ q. known (now q)) s same
  asked_is number p (flop path clock next bit) (Flop kind source) kept is of holds = holds tt
  asked_is number p (hold path gate e bit) (Hold opens latched) kept is of holds =
      (λ j. through (of.0.value (λ q. known (now q)) s same j) (of.1.value (λ q. known (now q)) s same j) (holds tt j))
  asked_is number p d drive kept is of holds = absurd of

  -- what a latch holds
  held_is : (d : Driver) (drive : Drive) (kept found : PlainTern) (h v : Bool) → IsDriveOf text trees d drive → IsStored d → kept ≡ known h → found ≡ known v →
      held_by (Some drive) kept found ≡ known (held_after d h v)
  held_is (flop path clock next bit) (Flop kind source) kept found h v of holds old new = old
  held_is (hold path gate e bit) (Hold opens latched) kept found h v of holds old new = new
  held_is outside drive kept found h v of holds old new = absurd holds
  held_is (copy other) drive kept found h v of holds old new = absurd holds
  held_is (bit_of path e bit) drive kept found h v of holds old new = absurd holds
  held_is (flop path clock next bit) drive kept found h v of holds old new = absurd of
  held_is (hold path gate e bit) drive kept found h v of holds old new = absurd of

-- ---- one value of an assignment

abbrev pub with_bit : Point → Bool → Assignment → Assignment
with_bit p b a q = if same_point p q then b else a q

with_same : (p : Point) (b : Bool) (a : Assignment) → with_bit p b a p ≡ b
with_same p b a = rw (same_point_refl p) refl

with_other : (p : Point) (b : Bool) (a : Assignment) (q : Point) → q ≢ p → with_bit p b a q ≡ a q
with_other p b a q apart =
    let not : same_point p q ≡ false = elim (cases_Bool (same_point p q)) [ inl t ↦ absurd (apart (sym (same_point_is p q t))) | inr f ↦ f ] in
    rw not refl

module _ (text : List PlainModule) (sound : IsSound text) (one : PointsOfSoundTextsHaveOneDriver) (network : Network)
    (wired : AreDrives text network.trees.items network.drives.items) (long : length network.drives.items ≡ length (points text)) where
  declared : (number : ℕ) (p : Point) → IsPoint text number p → is_declared text p ≡ true
  declared number p is = points_are_declared text sound p (point_there text number p is)

  pub within : (number : ℕ) (p : Point) → IsPoint text number p → number < length network.drives.items
  within number p is = let less = slice_get_within (points text) number p is in omega (arith, long)

  -- by number a board shows what the points have
  pub shown_by_number : (board : Board) (state : State) → IsBoardOf network board → StandsFor text board state → AreByNumber text (λ p. known (state.now p)) (shown_on board)
  shown_by_number board state is stands number p at = board_shown network board is number (within number p at) ∙ stands.shown number p at

  pub asked_shown : (board : Board) (state : State) → IsBoardOf network board → StandsFor text board state → (number : ℕ) (p : Point) (d : Driver) → IsPoint text number p →
      Drives text p d → asked_tern network.trees.items network.drives.items (given_on network board) (shown_on board) number ≡ known (shown text state.now state.held state.now p d)
  asked_shown board state is stands number p d at drives =
      let w = wired number p d at drives in
      let s = shown_on board in
      ap (λ (o : Option Drive). asked_by network.trees.items (given_at o (s number) (kept_tern board.held.items number)) s o) w.is
      ∙ asked_is text network.trees.items state.now state.held s (shown_by_number board state is stands) number p d w.drive (kept_tern board.held.items number) at w.of
      (λ holds. stands.held number p d at drives holds)
      ∙ driver_known text state.now state.held state.now (λ q. known (state.now q)) p d (λ q r. refl)

  -- ---- an activation

  module _ (before after : Board) (state : State) (is : IsBoardOf network before) (stands : StandsFor text before state) (number : ℕ) (p : Point) (at : IsPoint text number p)
      (step : IsActivated network number before after) where
    abbrev driver : HasOneDriver text p
    driver = one text sound p (declared number p at)

    abbrev value : Bool
    value = shown text state.now state.held state.now p driver.0

    abbrev next : State
    next = record { now = with_bit p value state.now; held = with_bit p (held_after driver.0 (state.held p) value) state.held }

    only : (e : Driver) → Drives text p e → driver.0 ≡ e
    only e drives = sym (driver.2 e drives)

    activation : IsActivation text p state next
    activation = record {
      takes = λ e drives. with_same p value state.now ∙ ap (shown text state.now state.held state.now p) (only e drives);
      holds = λ e drives.
          with_same p (held_after driver.0 (state.held p) value) state.held
          ∙ ap (λ (x : Driver). held_after x (state.held p) value) (only e drives) ∙ ap (held_after e (state.held p)) (sym (with_same p value state.now));
      others = λ q apart. (with_other p value state.now q apart, with_other p (held_after driver.0 (state.held p) value) state.held q apart);
    }

    found : kept_tern after.terns.items number ≡ known value
    found = step.takes ∙ asked_shown before state is stands number p driver.0 at driver.1

    same_number : (k : ℕ) (q : Point) → IsPoint text k q → k ≡ number → q ≡ p
    same_number k q there e = same_value (slice_get (points text) k) q p there (ap (slice_get (points text)) e ∙ at)

    other_number : (k : ℕ) (q : Point) → IsPoint text k q → k ≢ number → q ≢ p
    other_number k q there apart e = apart (points_differ text sound k number p (subst (IsPoint text k) e there) at)

    still : StandsFor text after next
    still = record {
      shown = λ k q there.
          elim (cases_eq k number) [
            | inl e ↦ ap (kept_tern after.terns.items) e ∙ found ∙ ap known (sym (ap (with_bit p value state.now) (same_number k q there e) ∙ with_same p value state.now))
            | inr apart ↦ (step.others k apart).shown ∙ stands.shown k q there ∙ ap known (sym (with_other p value state.now q (other_number k q there apart)))
          ];
      held = λ k q d there drives holds.
          let h = held_after driver.0 (state.held p) value in
          elim (cases_eq k number) [
            | inl e ↦
                let here = same_number k q there e in
                let drives_p : Drives text p d = subst (λ (x : Point). Drives text x d) here drives in
                let same : driver.0 ≡ d = only d drives_p in
                let holds_p : IsStored driver.0 = subst IsStored (sym same) holds in
                let w = wired number p driver.0 at driver.1 in
                ap (kept_tern after.held.items) e ∙ step.holds
                ∙ ap (λ (o : Option Drive). held_by o (kept_tern before.held.items number) (kept_tern after.terns.items number)) w.is
                ∙ held_is text network.trees.items state.now state.held (shown_on before) (shown_by_number before state is stands) driver.0 w.drive
                (kept_tern before.held.items number) (kept_tern after.terns.items number) (state.held p) value w.of holds_p (stands.held number p driver.0 at driver.1 holds_p) found
                ∙ ap known (sym (ap (with_bit p h state.held) here ∙ with_same p h state.held))
            | inr apart ↦ (step.others k apart).held ∙ stands.held k q d there drives holds ∙ ap known (sym (with_other p h state.held q (other_number k q there apart)))
          ];
    }

    pub activated_state : (s : State) × IsActivation text p state s × StandsFor text after s
    activated_state = (next, activation, still)

  -- ---- activations in an order

  still_board : (before after : Board) (number : ℕ) → IsBoardOf network before → IsActivated network number before after → IsBoardOf network after
  still_board before after number is step = record {
    few = is.few;
    terns = step.terns_long ∙ is.terns;
    held = step.held_long ∙ is.held;
    leads = subst (λ (ls : List ℕ). LeadToThemselves (length network.drives.items) ls) (sym (λ i. (step.leads i).items)) is.leads;
  }

  pub record AreStepped (order : List ℕ) (state : State) (after : Board) : Type 0 where
    pub activated : List Point
    pub numbered : AllZip (IsPoint text) order activated
    pub last : State
    pub steps : AreSteps (IsStep text) (map activate activated) state last
    pub stands : StandsFor text after last

  pub activated_states : (order : List ℕ) (before after : Board) (state : State) → All (λ point. point < length network.drives.items) order → IsBoardOf network before →
      StandsFor text before state → AreActivated network order before after → AreStepped order state after
  activated_states [] before after state below is stands same = record {
    activated = [];
    numbered = tt;
    last = state;
    steps = refl;
    stands = subst (λ (b : Board). StandsFor text b state) same stands;
  }
  activated_states (number ∷ order) before after state below is stands steps =
      let there = some_there (points text) number (omega (arith, below 0 0 (omega arith), long)) in
      let one_step = activated_state before steps.0 state is stands number there.0 there.1 steps.1 in
      let rest = activated_states order steps.0 after one_step.0 (λ k d l. below (suc k) d (omega arith)) (still_board before steps.0 number is steps.1) one_step.2 steps.2 in
      record {
        activated = there.0 ∷ rest.activated;
        numbered = (there.1, rest.numbered);
        last = rest.last;
        steps = (one_step.0, one_step.1, rest.steps);
        stands = rest.stands;
      }
