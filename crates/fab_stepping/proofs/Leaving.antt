-- A tick of a board is one of the state for which it stands, and its least solution is the text's.
use Rattle.std.proofs.Common.{◌≡◌, ℕ, Bool, true, false, List, Option, Some, length, if◌then◌else◌, refl, sym, ap, ◌∙◌, subst}
use Rattle.std.specs.List.{slice_get}
use Rattle.std.proofs.lemmas.Bool.{false≢true}
use Rattle.fab_syntax.specs.Plain.{PlainModule}
use Rattle.fab_syntax.specs.Sound.{IsSound}
use Rattle.fab_sound.specs.Narrow.{AreNarrow}
use Rattle.fab_systems_laws.specs.Ternary.{Tern, known}
use Rattle.fab_systems_laws.proofs.Order.{below_both}
use Rattle.fab_meaning.specs.Points.{Point, Driver, outside, copy, bit_of, flop, hold, Drives, IsStored}
use Rattle.fab_meaning.specs.Settled.{Assignment}
use Rattle.fab_meaning.specs.Reads.{is_declared}
use Rattle.fab_meaning.specs.Runs.{clock_of, is_clock, kept, user_clock_name}
use Rattle.fab_meaning.specs.Activation.{State}
use Rattle.fab_meaning.specs.Sound.{PointsOfSoundTextsHaveOneDriver}
use Rattle.fab_ternary_laws.specs.Shown.{Terns}
use Rattle.fab_ternary_laws.proofs.Drivers.{driver_known}
use Rattle.fab_solutions_laws.specs.Solutions.{tern_kept, IsLeastSolution}
use Rattle.fab_solutions_laws.specs.Laws.{LeastSolutionsExist}
use Rattle.fab_equations.specs.Instances.{points}
use Rattle.fab_equations.specs.Equations.{IsPoint}
use Rattle.fab_compiled.specs.declared.tree.Tree.{Tree}
use Rattle.fab_compiled.specs.Leading.{PointTerns}
use Rattle.fab_compiled.specs.Values.{AreByNumber}
use Rattle.fab_network.specs.declared.network.Clock.TheVariants.{User}
use Rattle.fab_network.specs.declared.network.Drive.{Drive}
use Rattle.fab_network.specs.declared.network.Drive.TheVariants.{Given, Flop, Hold}
use Rattle.fab_network.specs.declared.network.Network.{Network}
use Rattle.fab_network.specs.Passes.{kept_tern}
use Rattle.fab_network.specs.Solved.{IsLeast}
use Rattle.fab_wiring.specs.Wiring.{AreDrives, IsDriveOf}
use Rattle.fab_wiring.specs.Given.{IsGivenTo, AreGivenByNumber, given_at, left_by}
use Rattle.fab_wiring.proofs.Left.{left_by_number}
use Rattle.fab_wiring.proofs.Numbered.{numbers_have_terns}
use Rattle.fab_wiring.proofs.Solved.{least_by_number}
use Rattle.fab_stepping.specs.declared.board.Board.{Board}
use Rattle.fab_stepping.specs.Boards.{given_on, left_on, shown_on, IsBoardOf, IsTicked}
use Rattle.fab_stepping.specs.Standing.{StandsFor}
use Rattle.fab_stepping.proofs.Standing.{shown_by_number, within}

-- ---- where all is known

chosen : (ticks : Bool) (new old : Tern) (next rest : Bool) → new ≡ known next → old ≡ known rest → (if ticks then new else old) ≡ known (if ticks then next else rest)
chosen true new old next rest is_new is_old = is_new
chosen false new old next rest is_new is_old = is_old

-- what is kept of known values is known, and is what is kept of them
kept_known : (text : List PlainModule) (clock : List ℕ) (held now : Assignment) (p : Point) (d : Driver) →
    tern_kept text clock (λ q. known (held q)) (λ q. known (now q)) p d ≡ known (kept text clock held now p d)
kept_known text clock held now p (flop path own next bit) =
    chosen (is_clock clock (clock_of text path own)) _ _ _ _ (driver_known text now held now (λ q. known (now q)) p (bit_of path next bit) (λ q r. refl)) refl
kept_known text clock held now p (hold path gate e bit) = refl
kept_known text clock held now p outside = refl
kept_known text clock held now p (copy other) = refl
kept_known text clock held now p (bit_of path e bit) = refl

-- ---- what is given by number

given_is : (text : List PlainModule) (trees : List Tree) (now held : Assignment) (p : Point) (d : Driver) (drive : Drive) (shown kept_there : Tern) → IsDriveOf text trees d drive →
    shown ≡ known (now p) → (IsStored d → kept_there ≡ known (held p)) →
    IsGivenTo (λ q. known (now q)) (λ q. known (held q)) p d (given_at (Some drive) shown kept_there)
given_is text trees now held p outside Given shown kept_there of is holds = is
given_is text trees now held p (copy other) drive shown kept_there of is holds = tt
given_is text trees now held p (bit_of path e bit) drive shown kept_there of is holds = tt
given_is text trees now held p (flop path clock next bit) (Flop kind source) shown kept_there of is holds = holds tt
given_is text trees now held p (hold path gate e bit) (Hold opens latched) shown kept_there of is holds = holds tt
given_is text trees now held p d drive shown kept_there of is holds = absurd of

given_held : (text : List PlainModule) (trees : List Tree) (d : Driver) (drive : Drive) (shown kept_there : Tern) → IsDriveOf text trees d drive → IsStored d →
    given_at (Some drive) shown kept_there ≡ kept_there
given_held text trees (flop path clock next bit) (Flop kind source) shown kept_there of holds = refl
given_held text trees (hold path gate e bit) (Hold opens latched) shown kept_there of holds = refl
given_held text trees outside drive shown kept_there of holds = absurd holds
given_held text trees (copy other) drive shown kept_there of holds = absurd holds
given_held text trees (bit_of path e bit) drive shown kept_there of holds = absurd holds
given_held text trees d drive shown kept_there of holds = absurd of

module _ (text : List PlainModule) (sound : IsSound text) (one : PointsOfSoundTextsHaveOneDriver) (network : Network)
    (wired : AreDrives text network.trees.items network.drives.items) (long : length network.drives.items ≡ length (points text))
    (board : Board) (state : State) (is : IsBoardOf network board) (stands : StandsFor text board state) where
  abbrev trees : List Tree
  trees = network.trees.items

  abbrev drives : List Drive
  drives = network.drives.items

  abbrev now_terns : Terns
  now_terns q = known (state.now q)

  abbrev held_terns : Terns
  held_terns q = known (state.held q)

  pub shows : AreByNumber text now_terns (shown_on board)
  shows = shown_by_number text sound one network wired long board state is stands

  pub given_by_number : AreGivenByNumber text now_terns held_terns (given_on network board)
  given_by_number number p d at driven =
      let w = wired number p d at driven in
      subst (λ (o : Option Drive). IsGivenTo now_terns held_terns p d (given_at o (shown_on board number) (kept_tern board.held.items number))) (sym w.is)
      (given_is text trees state.now state.held p d w.drive (shown_on board number) (kept_tern board.held.items number) w.of (shows number p at)
      (λ holds. stands.held number p d at driven holds))

  -- ---- the least solution

  pub record IsSolvedBy (s : PointTerns) : Type 0 where
    pub solution : Terns
    pub least : IsLeastSolution text now_terns held_terns solution
    pub same : AreByNumber text solution s

  pub solved_by : LeastSolutionsExist → AreNarrow text → (s : PointTerns) → IsLeast trees drives (given_on network board) s → IsSolvedBy s
  solved_by exist narrow s least =
      let t = exist text sound narrow now_terns held_terns in
      let u = numbers_have_terns text t.0 in
      let other : IsLeast trees drives (given_on network board) u.0 =
      least_by_number one text sound trees drives long wired now_terns held_terns t.0 (given_on network board) u.0 given_by_number u.1 t.1 in
      record {
        solution = t.0;
        least = t.1;
        same = λ number p at.
            let less = within text sound one network wired long number p at in
            below_both (s number) (u.0 number) (least.least u.0 other.solves number less) (other.least s least.solves number less) ∙ u.1 number p at;
      }

  -- ---- a tick

  -- what is held behind it, also where no point is declared
  held_behind : (p : Point) (there : Bool) → is_declared text p ≡ there → Bool
  held_behind p true e = kept text user_clock_name state.held state.now p (one text sound p e).0
  held_behind p false e = state.held p

  behind_is : (p : Point) (d : Driver) (there : Bool) (e : is_declared text p ≡ there) → there ≡ true → Drives text p d →
      held_behind p there e ≡ kept text user_clock_name state.held state.now p d
  unfolding held_behind
  behind_is p d true e declared driven = ap (kept text user_clock_name state.held state.now p) (sym ((one text sound p e).2 d driven))
  behind_is p d false e declared driven = absurd (false≢true declared)

  abbrev next : State
  next = record { now = state.now; held = λ p. held_behind p (is_declared text p) refl }

  pub record IsTickedState (after : Board) : Type 0 where
    pub next_state : State
    pub stays : (p : Point) → next_state.now p ≡ state.now p
    pub keeps : (p : Point) (d : Driver) → is_declared text p ≡ true → Drives text p d → next_state.held p ≡ kept text user_clock_name state.held state.now p d
    pub still : StandsFor text after next_state

  left_is : (number : ℕ) (p : Point) (d : Driver) → IsPoint text number p → Drives text p d → IsStored d →
      left_on network board number ≡ known (kept text user_clock_name state.held state.now p d)
  left_is number p d at driven holds =
      let w = wired number p d at driven in
      let held_here : given_on network board number ≡ kept_tern board.held.items number =
      ap (λ (o : Option Drive). given_at o (shown_on board number) (kept_tern board.held.items number)) w.is
      ∙ given_held text trees d w.drive (shown_on board number) (kept_tern board.held.items number) w.of holds in
      ap (λ (h : Tern). left_by trees User h (shown_on board) number (slice_get drives number)) (sym held_here)
      ∙ sym (left_by_number text trees drives wired now_terns held_terns now_terns (given_on network board) (shown_on board) given_by_number shows User user_clock_name refl
      number p d at driven holds)
      ∙ kept_known text user_clock_name state.held state.now p d

  pub ticked_state : (after : Board) → IsTicked network board after → ((number : ℕ) (p : Point) → IsPoint text number p → is_declared text p ≡ true) → IsTickedState after
  ticked_state after ticked declared = record {
    next_state = next;
    stays = λ p. refl;
    keeps = λ p d there driven. behind_is p d (is_declared text p) refl there driven;
    still = record {
      shown = λ number p at. (λ i. kept_tern ((ticked.terns i).items) number) ∙ stands.shown number p at;
      held = λ number p d at driven holds.
          ticked.left number (within text sound one network wired long number p at) ∙ left_is number p d at driven holds
          ∙ ap known (sym (behind_is p d (is_declared text p) refl (declared number p at) driven));
    };
  }
