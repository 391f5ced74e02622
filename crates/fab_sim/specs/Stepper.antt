-- What a stepper keeps of an ordered simulation.
use Rattle.std.specs.Prelude.{◌≡◌, ◌↔◌, ℕ, ◌<◌, Bool, true, All, List, length, slice_get, Some}
use Rattle.fab_draws.specs.Draws.{behind, word_at}
use Rattle.fab_syntax.specs.Plain.{PlainModule}
use Rattle.fab_meaning.specs.Points.{Point}
use Rattle.fab_equations.specs.Instances.{points}
use Rattle.fab_equations.specs.Equations.{IsPoint}
use Rattle.fab_ternary_laws.specs.Shown.{Terns}
use Rattle.fab_state.specs.Plain.{PlainState}
use Rattle.fab_network.specs.Passes.{kept_tern}
use Rattle.fab_ordering_laws.specs.Ordered.{Moment, IsFreeInput}
use Rattle.fab_ordering_laws.specs.fab_simulation_laws_Simulation.{IsLoaded}
use Rattle.fab_state_points.specs.Standing.{StandsAt}
use Rattle.fab_stepping.specs.Activating.{AreApart}
use Rattle.fab_stepping.specs.Boards.{IsBoardOf}
use Rattle.fab_stepping.specs.Standing.{StandsFor}
use Rattle.fab_sim.specs.Once.{StandsOnce}
use Rattle.fab_sim.specs.Making.{IsNetworkOf}
use Rattle.fab_sim.specs.Machine.{IsFresh}
use Rattle.fab_sim.specs.declared.machine.Machine.{Machine}
use Rattle.fab_sim.specs.declared.stepper.Stepper.{Stepper}

-- just the inputs are marked that take a drawn value in each cycle
pub record AreFreeInputs (text : List PlainModule) (state : PlainState) (free : List Bool) : Type 0 where
  pub long : length free ≡ length (points text)
  pub marked : (number : ℕ) (p : Point) → IsPoint text number p → (slice_get free number ≡ Some true) ↔ IsFreeInput text state p

-- A stepper stands where an ordered simulation does.
pub record Stands (text : List PlainModule) (state : PlainState) (draws : ℕ → ℕ) (stepper : Stepper) (moment : Moment) : Type 0 where
  pub network : IsNetworkOf text stepper.network
  pub once : StandsOnce state
  pub points_stand : StandsAt text state stepper.points
  pub board : IsBoardOf stepper.network stepper.board
  pub standing : StandsFor text stepper.board moment.standing
  pub solution_long : length stepper.solution.items ≡ length (points text)
  pub solution : (number : ℕ) (p : Point) → IsPoint text number p → kept_tern stepper.solution.items number ≡ moment.solution p
  pub order : stepper.order.items ≡ moment.order
  pub order_long : length stepper.order.items ≡ length (points text)
  pub below : All (λ point. point < length (points text)) stepper.order.items
  pub apart : AreApart stepper.order.items
  pub free : AreFreeInputs text state stepper.free.items
  pub drawn : word_at stepper.random ≡ behind moment.drawn draws

-- ---- what calls ask for

-- a machine to which words were loaded, and which has run no cycle
abbrev pub CanStart : Machine → Type 0
CanStart machine =
    (text : List PlainModule) × (state : PlainState) × (words : List (List Bool)) × (loaded : Terns) × IsLoaded text words loaded × IsFresh text state loaded machine

-- a stepper of a state with so many input ports and output ports
abbrev pub CanStep : Stepper → (inputs outputs : ℕ) → Type 0
CanStep stepper inputs outputs =
    (text : List PlainModule) × (state : PlainState) × (draws : ℕ → ℕ) × (moment : Moment) × Stands text state draws stepper moment × (length state.ins ≡ inputs)
    × (length state.outs ≡ outputs)

-- a stepper that stands somewhere
abbrev pub CanTell : Stepper → Type 0
CanTell stepper = (text : List PlainModule) × (state : PlainState) × (draws : ℕ → ℕ) × (moment : Moment) × Stands text state draws stepper moment
