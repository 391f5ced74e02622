-- Single steps of a text that is used as a design.
use Rattle.std.specs.Prelude.{◌≡◌, ◌≢◌, false, ℕ, List, [], Contains}
use Rattle.fab_syntax.specs.Plain.{PlainModule}
use Rattle.fab_meaning.specs.Points.{Point, point}
use Rattle.fab_meaning.specs.Runs.{user_clock_name, AreClocksLow}
use Rattle.fab_meaning.specs.Activation.{State, Event, activate, tick, change, IsStep}
use Rattle.fab_meaning.specs.Loading.{IsStream, write_strobe_name}
use Rattle.fab_meaning.specs.Loaded.{IsLoaded}
use Rattle.fab_fabric.specs.declared.wire.Site.{Site}
use Rattle.fab_implementation.specs.Plain.{PlainImplementation}
use Rattle.fab_prim.specs.Ports.{top_name}
use Rattle.fab_runs_laws.specs.fab_use_defs_Sites.{top_point}

-- The loading points have what their drivers give them, no word is written, and the clocks are 0. Of all other points nothing is said.
pub record IsAtRest (text : List PlainModule) (state : State) : Type 0 where
  pub settled : IsLoaded text state
  pub quiet : state.now (point [] write_strobe_name 0) ≡ false
  pub low : AreClocksLow state.now

-- In use any points are activated, any clocks tick, and inputs of the top change that are no clock and carry no words.
abbrev pub IsUse : List PlainModule → Event → Type 0
IsUse text (activate p) = Unit {0}
IsUse text (tick clock) = Unit {0}
IsUse text (change p value) = (IsStream text p → ⊥) × (p ≢ point [] user_clock_name 0)

pub record IsUseStep (text : List PlainModule) (event : Event) (before after : State) : Type 0 where
  pub step : IsStep text event before after
  pub kind : IsUse text event

-- the pad of an input port, where it comes in at the top
abbrev pub IsInputPad : PlainImplementation → Point → Type 0
IsInputPad implementation p = (port : List ℕ) × (site : Site) × Contains implementation.ins (port, site) × (p ≡ top_point site top_name)

-- Within a cycle UserCLK does not tick, and the pads of input ports do not change.
abbrev pub IsFree : List PlainModule → PlainImplementation → Event → Type 0
IsFree text implementation (activate p) = Unit {0}
IsFree text implementation (tick clock) = clock ≢ user_clock_name
IsFree text implementation (change p value) = (IsStream text p → ⊥) × (p ≢ point [] user_clock_name 0) × (IsInputPad implementation p → ⊥)

pub record IsFreeStep (text : List PlainModule) (implementation : PlainImplementation) (event : Event) (before after : State) : Type 0 where
  pub step : IsStep text event before after
  pub kind : IsFree text implementation event

-- Behind a tick of UserCLK the pads of input ports change.
abbrev pub IsFeeding : PlainImplementation → Event → Type 0
IsFeeding implementation (activate p) = ⊥
IsFeeding implementation (tick clock) = ⊥
IsFeeding implementation (change p value) = IsInputPad implementation p

pub record IsFeedingStep (text : List PlainModule) (implementation : PlainImplementation) (event : Event) (before after : State) : Type 0 where
  pub step : IsStep text event before after
  pub kind : IsFeeding implementation event
