-- Sets of points of a text in which no point reads itself, not even through others.
use Rattle.std.specs.Prelude.{◌≡◌, ℕ, ◌≤◌, Bool, true, false, List, length}
use Rattle.std.specs.List.{All}
use Rattle.fab_syntax.specs.Plain.{PlainModule}
use Rattle.fab_systems_laws.specs.System.{AgreeOn, IsRanked}
use Rattle.fab_systems_laws.specs.Steps.{IsBlock, blocks_then}
use Rattle.fab_meaning.specs.Points.{Point, Driver, outside, copy, bit_of, flop, hold, Drives}
use Rattle.fab_meaning.specs.Settled.{Assignment, IsSettledOn}
use Rattle.fab_meaning.specs.Runs.{clock_of, is_clock}
use Rattle.fab_meaning.specs.Reads.{reads, same_point}
use Rattle.fab_meaning.specs.Activation.{State, Event, activate, tick, change, IsStep, AreSteps}

abbrev pub IsIn : (Point → Bool) → Point → Type 0
IsIn has p = has p ≡ true

-- the one driver of each point of a set
pub record AreDrivenBy (text : List PlainModule) (has : Point → Bool) (driver : Point → Driver) : Type 0 where
  pub each : (p : Point) → has p ≡ true → Drives text p (driver p)
  pub only : (p : Point) (d : Driver) → has p ≡ true → Drives text p d → d ≡ driver p

-- Points of the set read points that are given, or ones of the set that rank lower.
abbrev pub AreRanked : List PlainModule → (has given : Point → Bool) → (driver : Point → Driver) → (rank : Point → ℕ) → (ranks : ℕ) → Type 0
AreRanked text has given driver rank ranks = IsRanked has given (λ p. reads text (driver p)) rank ranks

-- Such a set has a settled assignment, whatever stands elsewhere, and any two that agree on the given points agree on it.
abbrev pub TextsSettleOnce : Type 0
TextsSettleOnce =
    (text : List PlainModule) (has given : Point → Bool) (driver : Point → Driver) (rank : Point → ℕ) (ranks : ℕ) →
    AreDrivenBy text has driver → AreRanked text has given driver rank ranks → (inputs held : Assignment) →
    ((old : Assignment) → (new : Assignment) × IsSettledOn (IsIn has) text inputs held new × ((p : Point) → has p ≡ false → new p ≡ old p))
    × ((a b : Assignment) → IsSettledOn (IsIn has) text inputs held a → IsSettledOn (IsIn has) text inputs held b → AgreeOn given a b → AgreeOn has a b)

-- ---- blocks of activations

-- no input of the top, and no latch: a latch that is activated while its gate is wrong loses what it held
abbrev pub IsSteady : Driver → Type 0
IsSteady outside = ⊥
IsSteady (copy other) = Unit {0}
IsSteady (bit_of path e bit) = Unit {0}
IsSteady (flop path clock next bit) = Unit {0}
IsSteady (hold path gate e bit) = ⊥

-- no flip-flop of this clock
abbrev pub IsOffClock : List PlainModule → (clock : List ℕ) → Driver → Type 0
IsOffClock text clock (flop path own next bit) = is_clock clock (clock_of text path own) ≡ false
IsOffClock text clock _ = Unit {0}

-- an event that ticks no clock of the points of a set
abbrev pub IsOffClocks : List PlainModule → (has : Point → Bool) → (driver : Point → Driver) → Event → Type 0
IsOffClocks text has driver (tick clock) = (p : Point) → has p ≡ true → IsOffClock text clock (driver p)
IsOffClocks text has driver (activate p) = Unit {0}
IsOffClocks text has driver (change p value) = Unit {0}

abbrev pub activates : Event → Point → Bool
activates (activate p) q = same_point p q
activates (tick clock) q = false
activates (change p value) q = false

-- a step that leaves the clocks of a set alone, and the points that are given to it
pub record IsStepBeside (text : List PlainModule) (has given : Point → Bool) (driver : Point → Driver) (event : Event) (before after : State) : Type 0 where
  pub step : IsStep text event before after
  pub clocks : IsOffClocks text has driver event
  pub stay : AgreeOn given after.now before.now

-- From any state whose given points stand as in a settled assignment, as many blocks as there are ranks, each of which
-- activates each point of the set, lead to that assignment on the set, whatever else happens among them and after them.
abbrev pub BlocksSettleOnTexts : Type 0
BlocksSettleOnTexts =
    (text : List PlainModule) (has given : Point → Bool) (driver : Point → Driver) (rank : Point → ℕ) (ranks : ℕ) →
    AreDrivenBy text has driver → AreRanked text has given driver rank ranks → ((p : Point) → has p ≡ true → IsSteady (driver p)) →
    (before after : State) (inputs settled : Assignment) → IsSettledOn (IsIn has) text inputs before.held settled → AgreeOn given before.now settled →
    (blocks : List (List Event)) (more : List Event) → All (IsBlock activates has) blocks → ranks ≤ length blocks →
    AreSteps (IsStepBeside text has given driver) (blocks_then blocks more) before after →
    AgreeOn has after.now settled
