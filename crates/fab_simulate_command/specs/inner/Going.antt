-- How a machine goes through cycles.
use Rattle.std.specs.Prelude.{◌≡◌, ℕ, Bool, List, All, Option, length, map}
use Rattle.fab_desk.specs.Files.{Map}
use Rattle.fab_syntax.specs.Plain.{PlainModule}
use Rattle.fab_systems_laws.specs.Ternary.{Tern, known}
use Rattle.fab_ternary_laws.specs.Shown.{Terns}
use Rattle.fab_state.specs.Plain.{PlainState}
use Rattle.fab_sim.specs.fab_simulation_laws_Simulation.{AreCycles}
use Rattle.fab_sim.specs.fab_ordering_laws_Ordered.{AreOrderedCycles, IsOrderedCycle, Moment}
use Rattle.fab_sim.specs.declared.machine.Machine.{Machine}
use Rattle.fab_sim.specs.declared.stepper.Stepper.{Stepper}
use Rattle.fab_sim.specs.Machine.{IsAt, IsNew}
use Rattle.fab_sim.specs.Stepper.{Stands}
use Rattle.fab_simulate_command.specs.Simulating.{ReadsStimulus, Traces}

-- A machine is where a simulation goes through cycles with these lines, and shows this.
pub record GoesThrough (text : List PlainModule) (state : PlainState) (machine : Machine) (lines : List (List Bool)) (shown : List (List Tern)) : Type 0 where
  pub held : Terns
  pub last : Terns
  pub at : IsAt text state machine held
  pub cycles : AreCycles text state held lines shown last

-- the lines have a value for each input port
abbrev pub AreFull : PlainState → (lines : List (List Bool)) → Type 0
AreFull state lines = All (λ values. length values ≡ length state.ins) lines

-- What calls ask for: the machine can go through cycles with these lines, and the state has so many output ports.
abbrev pub CanGoThrough : Machine → (lines : List (List Bool)) → (ports : ℕ) → Type 0
CanGoThrough machine lines ports =
    (text : List PlainModule) × (state : PlainState) × (shown : List (List Tern)) × GoesThrough text state machine lines shown × AreFull state lines
    × (ports ≡ length state.outs)

-- the machine of some text and this state, to which no word has been loaded
abbrev pub CanStart : PlainState → Machine → Type 0
CanStart state machine = (text : List PlainModule) × IsNew text state machine

-- the same, with lines that it can go through
abbrev pub CanRun : PlainState → Machine → (lines : List (List Bool)) → Type 0
CanRun state machine lines = (text : List PlainModule) × IsNew text state machine × AreFull state lines

-- ---- in order

-- A stepper has gone through a cycle, and shown this.
pub record HasCycled (text : List PlainModule) (state : PlainState) (draws : ℕ → ℕ) (values : List Bool) (shown : List Tern) (before : Moment) (stepper : Stepper) : Type 0 where
  pub bits : List Bool
  pub known_is : shown ≡ map known bits
  pub next : Moment
  pub cycle : IsOrderedCycle text state draws values bits before next
  pub stands : Stands text state draws stepper next

-- From this moment on, cycles with these lines show this.
pub record HasGoneInOrder (text : List PlainModule) (state : PlainState) (draws : ℕ → ℕ) (start : Moment) (lines : List (List Bool)) (shown : List (List Tern)) : Type 0 where
  pub bits : List (List Bool)
  pub known_is : shown ≡ map (map known) bits
  pub last : Moment
  pub cycles : AreOrderedCycles text state draws start lines bits last

-- What calls ask for: the stepper stands somewhere, the lines have a value for each input port, and the state has so many output ports.
abbrev pub CanGoInOrder : Stepper → (lines : List (List Bool)) → (ports : ℕ) → Type 0
CanGoInOrder stepper lines ports =
    (text : List PlainModule) × (state : PlainState) × (draws : ℕ → ℕ) × (moment : Moment) × Stands text state draws stepper moment × AreFull state lines
    × (length state.outs ≡ ports)

-- ---- a stimulus

-- A file spells a stimulus, and the bytes are the trace for it.
pub record IsStimulated (files : Map) (stimulus : List ℕ) (text : List PlainModule) (state : PlainState) (order : Option ℕ) (words bytes : List ℕ) : Type 0 where
  pub lines : List (List Bool)
  pub given : ReadsStimulus files stimulus state lines
  pub traces : Traces text state order words lines bytes
