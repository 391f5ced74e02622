-- A cycle by numbers is a cycle of the text.
use Rattle.std.proofs.Common.{◌≡◌, ◌≢◌, ℕ, Bool, List, Option, None, Some, map, length, if◌then◌else◌, refl, sym, ap, subst, ◌∙◌, inl, inr}
use Rattle.std.specs.List.{slice_get}
use Rattle.fab_syntax.specs.Plain.{PlainModule}
use Rattle.fab_systems_laws.specs.Ternary.{Tern, no, known}
use Rattle.fab_meaning.specs.Points.{Point, Driver, outside, copy, bit_of, flop, hold, Drives, IsStored}
use Rattle.fab_meaning.specs.Runs.{user_clock_name}
use Rattle.fab_ternary_laws.specs.Shown.{Terns}
use Rattle.fab_state.specs.Plain.{PlainState}
use Rattle.fab_equations.specs.Equations.{IsPoint}
use Rattle.fab_equations.proofs.Numbering.{same_value}
use Rattle.fab_ternary.specs.Terns.{plain_tern}
use Rattle.fab_ternary.specs.declared.Tern.{Tern as Written}
use Rattle.fab_compiled.specs.Leading.{PointTerns}
use Rattle.fab_compiled.specs.Values.{AreByNumber}
use Rattle.fab_network.specs.declared.network.Clock.{Clock}
use Rattle.fab_network.specs.declared.network.Clock.TheVariants.{Loader, User, Other}
use Rattle.fab_network.specs.declared.network.Drive.{Drive}
use Rattle.fab_network.specs.declared.network.Drive.TheVariants.{Given, Flop, Same, Value, Hold}
use Rattle.fab_network.specs.declared.network.Network.{Network}
use Rattle.fab_network.specs.Solved.{IsLeast}
use Rattle.fab_demand.specs.Asked.{Asked}
use Rattle.fab_wiring.specs.Given.{IsGivenTo, given_at, given_tern, left_by, left_tern, ticks_at}
use Rattle.fab_wiring.specs.Laws.{LeastByNumber, LeftByNumber, NumbersHaveTerns}
use Rattle.fab_ordering_laws.specs.fab_simulation_laws_Simulation.{given, IsCycle}
use Rattle.fab_phases.specs.Cycles.{IsFed, IsIn, IsRunningAt, IsTicked}
use Rattle.fab_sim.specs.Machine.{IsAt}
use Rattle.fab_sim.specs.declared.machine.Machine.{Machine}
use Rattle.fab_sim.proofs.Points.{held_not_given, number_declared, outside_drive, point_of}
use Rattle.fab_sim.proofs.Numbers.{given_picked, in_given, ins_once, shown_numbers}

held_given : (o : Option Drive) (input held : Tern) → (o ≡ Some Given → ⊥) → given_at o input held ≡ held
held_given None input held other = refl
held_given (Some Given) input held other = absurd (other refl)
held_given (Some (Flop clock next)) input held other = refl
held_given (Some (Same point)) input held other = refl
held_given (Some (Value source)) input held other = refl
held_given (Some (Hold gate latched)) input held other = refl

other_clock : (clock : Clock) (next rest : Tern) → clock ≢ User → (if ticks_at User clock then next else rest) ≡ rest
other_clock Loader next rest other = refl
other_clock User next rest other = absurd (other refl)
other_clock Other next rest other = refl

-- What a cycle shows and leaves by number, as the text has it.
pub record RunsAs (text : List PlainModule) (network : Network) (ins outs : List ℕ) (holds : PointTerns) (values : List Bool) (shown : List Tern)
    (next : Terns) : Type 0 where
  pub later : PointTerns
  pub t : PointTerns
  pub after : PointTerns
  pub fed : IsFed ins values holds later
  pub least : IsLeast network.trees.items network.drives.items later t
  pub shows : map t outs ≡ shown
  pub ticked : IsTicked network ins later t after
  pub agree : (number : ℕ) (p : Point) (d : Driver) → IsPoint text number p → Drives text p d → IsStored d → after number ≡ next p
  pub low : (number : ℕ) → slice_get network.drives.items number ≡ Some Given → (IsIn ins number → ⊥) → after number ≡ no

module _ (text : List PlainModule) (state : PlainState) (machine : Machine) (held next : Terns) (at : IsAt text state machine held) (values : List Bool)
    (many : length values ≡ length state.ins) (shown : List Tern) (cycle : IsCycle text state held values shown next) (exist : NumbersHaveTerns)
    (least : LeastByNumber) (left : LeftByNumber) where
  fed : (s : PointTerns) × AreByNumber text (given state.ins values) s
  fed = exist text (given state.ins values)

  -- what is given in this cycle: the inputs, and elsewhere what is held
  abbrev later : PointTerns
  later = given_tern machine.network.drives.items fed.0 at.holds

  later_given : (number : ℕ) → slice_get machine.network.drives.items number ≡ Some Given → later number ≡ fed.0 number
  later_given number e = ap (λ (o : Option Drive). given_at o (fed.0 number) (at.holds number)) e

  later_held : (number : ℕ) → (slice_get machine.network.drives.items number ≡ Some Given → ⊥) → later number ≡ at.holds number
  later_held number other = held_given (slice_get machine.network.drives.items number) (fed.0 number) (at.holds number) other

  -- inputs that the state does not name are 0
  later_low : (number : ℕ) → slice_get machine.network.drives.items number ≡ Some Given → (IsIn machine.points.ins.items number → ⊥) → later number ≡ no
  later_low number e unnamed =
      let p = point_of text machine.network at.of.network number Given e in
      elim (given_picked text at.of.network.sound state.ins values machine.points.ins.items at.of.stands.ins many number p.0 p.1) [
        | inl named ↦ absurd (unnamed (named.0, number, named.2, refl))
        | inr none ↦ later_given number e ∙ fed.1 number p.0 p.1 ∙ none.1
      ]

  others_same : (number : ℕ) → (IsIn machine.points.ins.items number → ⊥) → (o : Option Drive) → slice_get machine.network.drives.items number ≡ o →
      later number ≡ at.holds number
  others_same number unnamed None e = ap (λ (o : Option Drive). given_at o (fed.0 number) (at.holds number)) e
  others_same number unnamed (Some Given) e = later_low number e unnamed ∙ sym (at.low number e unnamed)
  others_same number unnamed (Some (Flop clock source)) e = ap (λ (o : Option Drive). given_at o (fed.0 number) (at.holds number)) e
  others_same number unnamed (Some (Same point)) e = ap (λ (o : Option Drive). given_at o (fed.0 number) (at.holds number)) e
  others_same number unnamed (Some (Value source)) e = ap (λ (o : Option Drive). given_at o (fed.0 number) (at.holds number)) e
  others_same number unnamed (Some (Hold gate latched)) e = ap (λ (o : Option Drive). given_at o (fed.0 number) (at.holds number)) e

  is_fed : IsFed machine.points.ins.items values at.holds later
  is_fed = record {
    fed = λ place number value e f.
        let is_given = in_given text machine.network at.of.network state machine.points at.of.stands place number e in
        let p = point_of text machine.network at.of.network number Given is_given in
        elim (given_picked text at.of.network.sound state.ins values machine.points.ins.items at.of.stands.ins many number p.0 p.1) [
          | inl named ↦ (
              let one : named.0 ≡ place = ins_once text state machine.points.ins.items at.of.once at.of.stands.ins named.0 place number named.2 e in
              let same : named.1 ≡ value =
              same_value (slice_get values place) named.1 value (ap (slice_get values) (sym one) ∙ named.3) f in
              later_given number is_given ∙ fed.1 number p.0 p.1 ∙ named.4 ∙ ap known same)
          | inr none ↦ absurd (none.0 (place, number, e, refl))
        ];
    others = λ number unnamed. others_same number unnamed (slice_get machine.network.drives.items number) refl;
  }

  given_by : (number : ℕ) (p : Point) (d : Driver) → IsPoint text number p → Drives text p d → IsGivenTo (given state.ins values) held p d (later number)
  given_by number p outside is driven = later_given number (outside_drive text machine.network at.of.network number p is driven) ∙ fed.1 number p is
  given_by number p (copy other) is driven = tt
  given_by number p (bit_of path e bit) is driven = tt
  given_by number p (flop path clock value bit) is driven =
      later_held number (held_not_given text machine.network at.of.network number p (flop path clock value bit) is driven tt) ∙ at.agree number p
      (flop path clock value bit) is
      driven tt
  given_by number p (hold path gate e bit) is driven =
      later_held number (held_not_given text machine.network at.of.network number p (hold path gate e bit) is driven tt) ∙ at.agree number p
      (hold path gate e bit) is driven tt

  -- the least solution by number
  now : (s : PointTerns) × AreByNumber text cycle.now s
  now = exist text cycle.now

  is_least : IsLeast machine.network.trees.items machine.network.drives.items later now.0
  is_least = least text at.of.network.sound machine.network.trees.items machine.network.drives.items at.of.network.long at.of.network.drives
      (given state.ins values) held cycle.now later now.0 given_by now.1
      cycle.least

  is_shown : map now.0 machine.points.outs.items ≡ shown
  is_shown = shown_numbers text state.outs machine.points.outs.items at.of.stands.outs cycle.now now.0 now.1 ∙ sym cycle.shows

  -- what the tick leaves
  abbrev after : PointTerns
  after = left_tern machine.network.trees.items machine.network.drives.items User later now.0

  left_at : (number : ℕ) (o : Option Drive) → slice_get machine.network.drives.items number ≡ o →
      after number ≡ left_by machine.network.trees.items User (later number) now.0 number o
  left_at number o e = ap (left_by machine.network.trees.items User (later number) now.0 number) e

  is_ticked : IsTicked machine.network machine.points.ins.items later now.0 after
  is_ticked = record {
    left = λ number. record {
      flop = λ source e. left_at number (Some (Flop User source)) e;
      latch = λ gate latched e. left_at number (Some (Hold gate latched)) e;
    };
    inputs = λ number e unnamed. left_at number (Some Given) e;
    flops = λ number clock source e other. left_at number (Some (Flop clock source)) e ∙ other_clock clock _ (later number) other;
    copies = λ number other e. left_at number (Some (Same other)) e;
    values = λ number source e. left_at number (Some (Value source)) e;
  }

  agree_after : (number : ℕ) (p : Point) (d : Driver) → IsPoint text number p → Drives text p d → IsStored d → after number ≡ next p
  agree_after number p d is driven stored =
      sym (left text machine.network.trees.items machine.network.drives.items at.of.network.drives (given state.ins values) held cycle.now later now.0
      given_by now.1 User
      user_clock_name refl number p d is
      driven stored)
      ∙ sym (cycle.leaves p d (number_declared text at.of.network.sound number p is) driven)

  low_after : (number : ℕ) → slice_get machine.network.drives.items number ≡ Some Given → (IsIn machine.points.ins.items number → ⊥) → after number ≡ no
  low_after number e unnamed = left_at number (Some Given) e ∙ later_low number e unnamed

  -- all of it, as calls see it
  pub runs_as : RunsAs text machine.network machine.points.ins.items machine.points.outs.items at.holds values shown next
  runs_as = record {
    later = later;
    t = now.0;
    after = after;
    fed = is_fed;
    least = is_least;
    shows = is_shown;
    ticked = is_ticked;
    agree = agree_after;
    low = low_after;
  }

-- ---- calls

-- what the calls ensure
abbrev pub ShowsAs : Network → Asked → (values : List Bool) → (outputs : List Written) → (ins outs : List ℕ) → List Written → Type 0
ShowsAs network demand values outputs ins outs given =
    (held later t : PointTerns) → IsRunningAt network ins outs demand given held → IsFed ins values held later →
    IsLeast network.trees.items network.drives.items later t → map plain_tern outputs ≡ map t outs

abbrev pub TicksAs : Network → (old new : Asked) → (values : List Bool) → (left : List Written) → (ins outs : List ℕ) → List Written → Type 0
TicksAs network old new values left ins outs given =
    (held later t next : PointTerns) → IsRunningAt network ins outs old given held → IsFed ins values held later →
    IsLeast network.trees.items network.drives.items later t → IsTicked network ins later t next → IsRunningAt network ins outs new left next

pub moved : {A B C : Type 0} (P : A → B → C → Type 0) (a x : A) (b y : B) (c z : C) → a ≡ x → b ≡ y → c ≡ z → P a b c → P x y z
moved P a x b y c z e f g holds = subst (P x y) g (subst (λ k. P x k c) f (subst (λ k. P k b c) e holds))
