-- Each event leads from a state to a next one.
use Rattle.std.specs.Prelude.{◌≡◌, true, List, All}
use Rattle.fab_syntax.specs.Plain.{PlainModule}
use Rattle.fab_syntax.specs.Sound.{IsSound}
use Rattle.fab_meaning.specs.Points.{Point, outside, IsDrivenOutside}
use Rattle.fab_meaning.specs.Reads.{is_declared}
use Rattle.fab_meaning.specs.Sound.{DrivesOnce}
use Rattle.fab_meaning.specs.Activation.{State, Event, activate, tick, change, IsSameAt, IsStep, AreSteps}

-- An event that there is in a text: any point is activated and any clock ticks, but of all points inputs of the top alone are changed.
abbrev pub IsEvent : List PlainModule → Event → Type 0
IsEvent text (activate p) = Unit {0}
IsEvent text (tick clock) = Unit {0}
IsEvent text (change p value) = IsDrivenOutside text p outside

-- From any state, any such events one after the other lead to a state, where no point has two drivers.
abbrev pub EventsLeadOn : Type 0
EventsLeadOn =
    (text : List PlainModule) → All (DrivesOnce text) text → (events : List Event) → All (IsEvent text) events → (before : State) →
    (after : State) × AreSteps (IsStep text) events before after

-- In a sound text an event leaves each declared point in one way alone.
abbrev pub EventsLeaveOne : Type 0
EventsLeaveOne =
    (text : List PlainModule) → IsSound text → (event : Event) (before after other : State) → IsStep text event before after → IsStep text event before other →
    (p : Point) → is_declared text p ≡ true → IsSameAt p after other
