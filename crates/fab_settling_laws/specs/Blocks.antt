-- Blocks of activations, and cycles of use that are made of them.
use Rattle.std.specs.Prelude.{◌≡◌, ◌≤◌, Bool, ℕ, List, [], ◌∷◌, All, Contains, length}
use Rattle.fab_syntax.specs.Plain.{PlainModule}
use Rattle.fab_systems_laws.specs.Steps.{blocks_then}
use Rattle.fab_meaning.specs.Points.{Point}
use Rattle.fab_meaning.specs.Runs.{user_clock_name}
use Rattle.fab_meaning.specs.Activation.{State, Event, activate, IsTick, AreSteps}
use Rattle.fab_netlist.specs.Plain.{PlainNetlist}
use Rattle.fab_implementation.specs.Plain.{PlainImplementation}
use Rattle.fab_runs_laws.specs.fab_use_defs_Cycles.{Instant, Feeds, Cycle}
use Rattle.fab_settling_laws.specs.Steps.{IsFreeStep, IsFeedingStep}

-- The points of a set stand on a list of this length. The least such number is the number of the points.
pub record HasAtMost (Has : Point → Type 0) (count : ℕ) : Type 0 where
  pub points : List Point
  pub all : (p : Point) → Has p → Contains points p
  pub as_many : length points ≡ count

-- among the events of a block, each point of a set is activated at least once
abbrev pub IsBlockOf : (Point → Type 0) → List Event → Type 0
IsBlockOf Has events = (p : Point) → Has p → Contains events (activate p)

-- at least as many blocks as this number
pub record AreBlocks (Has : Point → Type 0) (count : ℕ) (blocks : List (List Event)) : Type 0 where
  pub each : All (IsBlockOf Has) blocks
  pub enough : count ≤ length blocks

-- ---- cycles

-- A cycle: the values given for the input ports, by place; its blocks, and what follows them; the state at their end, at which UserCLK ticks, and
-- the state behind the tick; and how the pads of input ports change then, for the next cycle.
pub record BlockCycle : Type 0 where
  pub given : List Bool
  pub blocks : List (List Event)
  pub more : List Event
  pub settled : State
  pub ticked : State
  pub changes : List Event

-- from the state in which it begins to the one in which the next begins
pub record IsBlockCycle (Has : Point → Type 0) (count : ℕ) (text : List PlainModule) (netlist : PlainNetlist) (implementation : PlainImplementation)
    (cycle : BlockCycle) (before after : State) : Type 0 where
  pub fed : Feeds netlist implementation cycle.given before.now
  pub blocks : AreBlocks Has count cycle.blocks
  pub steps : AreSteps (IsFreeStep text implementation) (blocks_then cycle.blocks cycle.more) before cycle.settled
  pub ticks : IsTick text user_clock_name cycle.settled cycle.ticked
  pub changes : AreSteps (IsFeedingStep text implementation) cycle.changes cycle.ticked after

-- cycles one after the other
abbrev pub AreBlockCycles : (Point → Type 0) → (count : ℕ) → List PlainModule → PlainNetlist → PlainImplementation →
    List BlockCycle → (before after : State) → Type 0
AreBlockCycles Has count text netlist implementation [] before after = before ≡ after
AreBlockCycles Has count text netlist implementation (cycle ∷ more) before after =
    (between : State) × IsBlockCycle Has count text netlist implementation cycle before between
    × AreBlockCycles Has count text netlist implementation more between after

-- The end of its blocks as an instant of use, and the cycle as one of use with this instant alone.
abbrev pub end_of : BlockCycle → Instant
end_of cycle = record { inputs = cycle.settled.now; now = cycle.settled.now; clock = user_clock_name }

abbrev pub as_cycle : BlockCycle → Cycle
as_cycle cycle = record { given = cycle.given; instants = end_of cycle ∷ [] }
