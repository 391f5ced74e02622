-- Clocks of the top that tick at once, as where a chip joins two of them to one net.
use Rattle.std.specs.Prelude.{◌≡◌, ◌↔◌, ℕ, Bool, true, List, [], ◌∷◌, map, bytes_eq, Option, Some, if◌then◌else◌, All}
use Rattle.std.specs.List.{list_any}
use Rattle.fab_syntax.specs.Plain.{PlainModule}
use Rattle.fab_syntax.specs.Declarations.{is_input_of}
use Rattle.fab_meaning.specs.Value.{value, bit_at}
use Rattle.fab_meaning.specs.Points.{Point, Driver, flop, Drives, module_at}
use Rattle.fab_meaning.specs.Settled.{Assignment, names_at, IsSettledOn}
use Rattle.fab_meaning.specs.Runs.{clock_name, user_clock_name, clock_of, is_clock, kept, AreClocksLow, Moment, IsRunOn}
use Rattle.fab_meaning.specs.Sound.{DrivesOnce}
use Rattle.fab_meaning.specs.Activation.{State, tick, IsStep, AreSteps}
use Rattle.fab_meaning.specs.Loading.{IsLoading}
use Rattle.fab_nested_laws.specs.Nested.{inside, within, StandsIn, IsKept}

-- ---- a tick of several clocks

-- an input of the top is one of these clocks
abbrev pub is_among : (clocks : List (List ℕ)) → Option (List ℕ) → Bool
is_among clocks own = list_any (λ clock. is_clock clock own) clocks

-- What a driver keeps where these clocks tick at once: a flip-flop of any of them takes its next value, of the assignment before the tick. Other
-- drivers keep the same at a tick of whatever clock.
abbrev pub kept_together : List PlainModule → (clocks : List (List ℕ)) → (held now : Assignment) → Point → Driver → Bool
kept_together text clocks held now p (flop path own next bit) =
    if is_among clocks (clock_of text path own) then bit_at (value (names_at text now path) next) bit else held p
kept_together text clocks held now p driver = kept text [] held now p driver

-- each point of a set is left with what its driver keeps
abbrev pub TickTogether : (Point → Type 0) → List PlainModule → (clocks : List (List ℕ)) → (held now next : Assignment) → Type 0
TickTogether Has text clocks held now next =
    (p : Point) (d : Driver) → Has p → Drives text p d → next p ≡ kept_together text clocks held now p d

-- the same of states: no point moves, and what each driver keeps is held from then on
pub record IsTickTogether (text : List PlainModule) (clocks : List (List ℕ)) (before after : State) : Type 0 where
  pub stays : (p : Point) → after.now p ≡ before.now p
  pub keeps : (p : Point) (d : Driver) → Drives text p d → after.held p ≡ kept_together text clocks before.held before.now p d

-- Clocks that tick at once do what they do in turn, in whatever order, where no point is activated between them.
abbrev pub TogetherIsInTurn : Type 0
TogetherIsInTurn =
    (text : List PlainModule) → All (DrivesOnce text) text → (clock : List ℕ) (more : List (List ℕ)) (before after : State) →
    IsTickTogether text (clock ∷ more) before after ↔ AreSteps (IsStep text) (map tick (clock ∷ more)) before after

-- ---- loading

-- one moment of a run: the top's inputs, and the clocks that tick at its end
pub record JointMoment : Type 0 where
  pub inputs : Assignment
  pub clocks : List (List ℕ)

-- as a run of moments with one clock (`IsRunOn`)
abbrev pub IsJointRunOn : (Point → Type 0) → List PlainModule → List JointMoment → (held after : Assignment) → Type 0
IsJointRunOn Has text [] held after = (p : Point) → Has p → after p ≡ held p
IsJointRunOn Has text (moment ∷ moments) held after =
    (now : Assignment) × (next : Assignment) × IsSettledOn Has text moment.inputs held now × AreClocksLow now
    × TickTogether Has text moment.clocks held now next × IsJointRunOn Has text moments next after

abbrev pub ticks_in : (clock : List ℕ) → (clocks : List (List ℕ)) → Bool
ticks_in clock clocks = list_any (bytes_eq clock) clocks

-- the same moment with CLK alone, where it ticks, and else with UserCLK alone
abbrev pub loader_moment : JointMoment → Moment
loader_moment moment = record { inputs = moment.inputs; clock = if ticks_in clock_name moment.clocks then clock_name else user_clock_name }

-- The loading points take a tick of CLK alone, whatever ticks with it.
abbrev pub LoadingTakesOne : Type 0
LoadingTakesOne =
    (text : List PlainModule) → All (DrivesOnce text) text → (moments : List JointMoment) (held after : Assignment) →
    IsJointRunOn (IsLoading text) text moments held after ↔ IsRunOn (IsLoading text) text (map loader_moment moments) held after

-- ---- a text in a greater one

-- a clock of the outer top ticks the inner text as all of these clocks at once
abbrev pub TicksAs : (inner outer : List PlainModule) (i : List ℕ) (clock : List ℕ) (clocks : List (List ℕ)) → Type 0
TicksAs inner outer i clock clocks =
    (name : List ℕ) → is_input_of (module_at inner []) name ≡ true → is_clock clock (clock_of outer (i ∷ []) name) ≡ is_among clocks (Some name)

-- a point is left with what its driver keeps where these clocks tick at once
abbrev pub IsKeptTogether : List PlainModule → (clocks : List (List ℕ)) → (held now next : Assignment) → Point → Type 0
IsKeptTogether text clocks held now next p = (d : Driver) → Drives text p d → next p ≡ kept_together text clocks held now p d

-- What is kept in the outer text at such a tick is kept in the inner one where these clocks tick at once.
abbrev pub NestedTicksTogether : Type 0
NestedTicksTogether =
    (inner outer : List PlainModule) (i : List ℕ) → StandsIn inner outer i → (clock : List ℕ) (clocks : List (List ℕ)) (held now next : Assignment) →
    TicksAs inner outer i clock clocks → (p : Point) → IsKept outer clock held now next (inside i p) →
    IsKeptTogether inner clocks (within i held) (within i now) (within i next) p
