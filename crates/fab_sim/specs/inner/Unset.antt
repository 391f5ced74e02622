-- A stepper that is made but for its values.
use Rattle.std.specs.Prelude.{◌≡◌, ℕ, ◌<◌, Bool, List, length, map}
use Rattle.fab_syntax.specs.Plain.{PlainModule}
use Rattle.fab_systems_laws.specs.Ternary.{no}
use Rattle.fab_meaning.specs.Points.{Point, Driver, Drives, IsStored}
use Rattle.fab_ternary_laws.specs.Shown.{Terns}
use Rattle.fab_equations.specs.Instances.{points}
use Rattle.fab_equations.specs.Equations.{IsPoint}
use Rattle.fab_state.specs.Plain.{PlainState}
use Rattle.fab_network.specs.Passes.{kept_tern}
use Rattle.fab_ordering_laws.specs.fab_simulation_laws_Simulation.{IsLoaded, with_registers}
use Rattle.fab_state_points.specs.Standing.{StandsAt}
use Rattle.fab_stepping.specs.Boards.{IsBoardOf, LeadToThemselves}
use Rattle.fab_sim.specs.Once.{StandsOnce}
use Rattle.fab_sim.specs.Making.{AreLoadingPoints, IsNetworkOf}
use Rattle.fab_sim.specs.Stepper.{AreFreeInputs}
use Rattle.fab_sim.specs.declared.stepper.Stepper.{Stepper}

-- All points are 0, and what words and the state leave is held. These are the marks of the loading points and the values of the state's flip-flops.
pub record IsUnset (text : List PlainModule) (state : PlainState) (loaded : Terns) (loads values : List Bool) (stepper : Stepper) : Type 0 where
  pub network : IsNetworkOf text stepper.network
  pub once : StandsOnce state
  pub points_stand : StandsAt text state stepper.points
  pub board : IsBoardOf stepper.network stepper.board
  pub zeros : (point : ℕ) → point < length (points text) → kept_tern stepper.board.terns.items point ≡ no
  pub held : (number : ℕ) (p : Point) (d : Driver) → IsPoint text number p → Drives text p d → IsStored d →
      kept_tern stepper.board.held.items number ≡ with_registers state.ffs loaded p
  pub loading : AreLoadingPoints text loads
  pub values_are : values ≡ map (λ register. register.1) state.ffs
  pub solution_long : length stepper.solution.items ≡ length (points text)
  pub order : LeadToThemselves (length (points text)) stepper.order.items
  pub free : AreFreeInputs text state stepper.free.items

-- a stepper that can be set so
abbrev pub CanBeSet : Stepper → (loads values : List Bool) → Type 0
CanBeSet stepper loads values =
    (text : List PlainModule) × (state : PlainState) × (words : List (List Bool)) × (loaded : Terns) × IsLoaded text words loaded
    × IsUnset text state loaded loads values stepper
