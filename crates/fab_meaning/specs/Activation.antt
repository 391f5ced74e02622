-- Single steps of a text: activations of points, ticks of clocks and changes of inputs. No order is laid down for them, as
-- IEEE 1364-2005 lays down none for active events (11.4.2).
use Rattle.std.specs.Prelude.{◌≡◌, ◌≢◌, ℕ, Bool, List, [], ◌∷◌}
use Rattle.fab_syntax.specs.Plain.{PlainModule}
use Rattle.fab_meaning.specs.Points.{Point, Driver, outside, copy, bit_of, flop, hold, Drives, IsDrivenOutside}
use Rattle.fab_meaning.specs.Settled.{Assignment, shown}
use Rattle.fab_meaning.specs.Runs.{kept}

-- a value for each point, and what is held for it where it has a flip-flop or a latch
pub record State : Type 0 where
  pub now : Assignment
  pub held : Assignment

pub data Event : Type 0 where
  -- a point takes what its driver gives it
  activate : Point → Event
  -- a clock of the top ticks
  tick : (clock : List ℕ) → Event
  -- an input of the top gets a value
  change : Point → Bool → Event

-- what a driver holds where its point has been activated: a latch holds what its point has
abbrev pub held_after : Driver → (held now : Bool) → Bool
held_after (hold path gate e bit) held now = now
held_after outside held now = held
held_after (copy other) held now = held
held_after (bit_of path e bit) held now = held
held_after (flop path clock next bit) held now = held

abbrev pub IsSameAt : Point → (before after : State) → Type 0
IsSameAt q before after = (after.now q ≡ before.now q) × (after.held q ≡ before.held q)

abbrev pub IsSameBut : Point → (before after : State) → Type 0
IsSameBut p before after = (q : Point) → q ≢ p → IsSameAt q before after

-- an activated point takes its driver's value where all points stand before
pub record IsActivation (text : List PlainModule) (p : Point) (before after : State) : Type 0 where
  pub takes : (d : Driver) → Drives text p d → after.now p ≡ shown text before.now before.held before.now p d
  pub holds : (d : Driver) → Drives text p d → after.held p ≡ held_after d (before.held p) (after.now p)
  pub others : IsSameBut p before after

-- a tick moves no point; what each driver keeps is held from then on
pub record IsTick (text : List PlainModule) (clock : List ℕ) (before after : State) : Type 0 where
  pub stays : (p : Point) → after.now p ≡ before.now p
  pub keeps : (p : Point) (d : Driver) → Drives text p d → after.held p ≡ kept text clock before.held before.now p d

-- a change of an input of the top
pub record IsChange (text : List PlainModule) (p : Point) (value : Bool) (before after : State) : Type 0 where
  pub input : IsDrivenOutside text p outside
  pub gets : after.now p ≡ value
  pub holds : after.held p ≡ before.held p
  pub others : IsSameBut p before after

-- what leads from one state to the next at an event
abbrev pub IsStep : List PlainModule → Event → (before after : State) → Type 0
IsStep text (activate p) before after = IsActivation text p before after
IsStep text (tick clock) before after = IsTick text clock before after
IsStep text (change p value) before after = IsChange text p value before after

-- steps one after another, each from the state that the one before it left
abbrev pub AreSteps : (Step : Event → (before after : State) → Type 0) → List Event → (before after : State) → Type 0
AreSteps Step [] before after = before ≡ after
AreSteps Step (event ∷ events) before after = (between : State) × Step event before between × AreSteps Step events between after
