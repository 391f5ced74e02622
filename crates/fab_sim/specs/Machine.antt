-- What a machine keeps of a text and a state, before words are loaded and from then on.
use Rattle.std.specs.Prelude.{◌≡◌, ℕ, Bool, List, length, map, slice_get, Some}
use Rattle.fab_syntax.specs.Plain.{PlainModule}
use Rattle.fab_systems_laws.specs.Ternary.{no}
use Rattle.fab_meaning.specs.Points.{Point, Driver, Drives, IsStored}
use Rattle.fab_meaning.specs.Runs.{user_clock_name}
use Rattle.fab_ternary_laws.specs.Shown.{Terns}
use Rattle.fab_state.specs.Plain.{PlainState}
use Rattle.fab_equations.specs.Instances.{points}
use Rattle.fab_equations.specs.Equations.{IsPoint}
use Rattle.fab_compiled.specs.Leading.{PointTerns}
use Rattle.fab_network.specs.declared.network.Drive.TheVariants.{Given}
use Rattle.fab_network.specs.Passes.{kept_tern}
use Rattle.fab_demand.specs.Demand.{AreFormsOf}
use Rattle.fab_wiring.specs.Clocks.{IsClockAt}
use Rattle.fab_ordering_laws.specs.fab_simulation_laws_Simulation.{with_registers}
use Rattle.fab_phases.specs.Words.{IsLoadingAt}
use Rattle.fab_phases.specs.Cycles.{IsIn, IsRunningAt}
use Rattle.fab_state_points.specs.Standing.{StandsAt, data_width, first_data}
use Rattle.fab_sim.specs.Once.{StandsOnce}
use Rattle.fab_sim.specs.Making.{AreLoadingPoints, AreLoads, IsGivenFirst, IsNetworkOf}
use Rattle.fab_sim.specs.declared.machine.Machine.{Machine}

-- A machine is that of the text and the state.
pub record IsMachineOf (text : List PlainModule) (state : PlainState) (machine : Machine) : Type 0 where
  pub network : IsNetworkOf text machine.network
  pub once : StandsOnce state
  pub stands : StandsAt text state machine.points
  pub values : machine.values.items ≡ map (λ register. register.1) state.ffs
  pub given : length machine.given.items ≡ length (points text)
  pub demand : length machine.demand.leads ≡ length (points text)
  pub loads : AreLoadingPoints text machine.loads.items
  pub clock : IsClockAt text user_clock_name machine.clock

-- No word has been loaded.
pub record IsNew (text : List PlainModule) (state : PlainState) (machine : Machine) : Type 0 where
  pub of : IsMachineOf text state machine
  pub loads : List Bool
  pub are : AreLoads text loads
  pub loading : IsLoadingAt machine.network machine.loading loads (first_data machine.points.stream.carrier) (data_width machine.points.stream.carrier) machine.demand
      machine.given.items
  pub first : IsGivenFirst (length (points text)) machine.points.stream (kept_tern machine.given.items)

-- Words are loaded, and flip-flops and latches hold this, as far as the outputs to come depend on it.
pub record IsAt (text : List PlainModule) (state : PlainState) (machine : Machine) (held : Terns) : Type 0 where
  pub of : IsMachineOf text state machine
  pub holds : PointTerns
  pub running : IsRunningAt machine.network machine.points.ins.items machine.points.outs.items machine.demand machine.given.items holds
  pub forms : AreFormsOf machine.network machine.demand machine.forms.items
  pub agree : (number : ℕ) (p : Point) (d : Driver) → IsPoint text number p → Drives text p d → IsStored d → holds number ≡ held p
  pub low : (number : ℕ) → slice_get machine.network.drives.items number ≡ Some Given → (IsIn machine.points.ins.items number → ⊥) → holds number ≡ no

-- Words are loaded, and no cycle was run: flip-flops and latches hold what loading and the state leave, all of them.
pub record IsFresh (text : List PlainModule) (state : PlainState) (loaded : Terns) (machine : Machine) : Type 0 where
  pub of : IsMachineOf text state machine
  pub held : (number : ℕ) (p : Point) (d : Driver) → IsPoint text number p → Drives text p d → IsStored d →
      kept_tern machine.given.items number ≡ with_registers state.ffs loaded p

-- ---- what calls ask for

-- a machine to which words can be loaded
abbrev pub CanLoad : Machine → Type 0
CanLoad machine = (text : List PlainModule) × (state : PlainState) × IsNew text state machine

-- a machine that can go through a cycle with so many inputs and outputs
abbrev pub CanCycle : Machine → (inputs outputs : ℕ) → Type 0
CanCycle machine inputs outputs =
    (text : List PlainModule) × (state : PlainState) × (held : Terns) × IsAt text state machine held × (inputs ≡ length state.ins) ×
    (outputs ≡ length state.outs)
