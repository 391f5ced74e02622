-- The memory of a stepper.
use Rattle.std.specs.Prelude.{◌≡◌, ◌≢◌, ℕ, ◌<◌, Bool, false, not, List, Option, Some, length, slice_get}
use Rattle.fab_syntax.specs.Plain.{PlainModule}
use Rattle.fab_systems_laws.specs.Ternary.{no}
use Rattle.fab_equations.specs.Instances.{points}
use Rattle.fab_state.specs.Plain.{PlainState}
use Rattle.fab_network.specs.declared.network.Drive.{Drive}
use Rattle.fab_network.specs.declared.network.Drive.TheVariants.{Given, Flop, Same, Value, Hold}
use Rattle.fab_network.specs.Passes.{kept_tern}
use Rattle.fab_phases.specs.Cycles.{IsIn}
use Rattle.fab_stepping.specs.Boards.{LeadToThemselves}
use Rattle.fab_sim.specs.Stepper.{AreFreeInputs}
use Rattle.fab_sim.specs.declared.stepping.Room.{Room}

-- Room for the points of a text: all are 0, and each leads to itself.
pub record IsRoomFor (text : List PlainModule) (state : PlainState) (room : Room) : Type 0 where
  pub long : length room.terns.items ≡ length (points text)
  pub zeros : (point : ℕ) → point < length (points text) → kept_tern room.terns.items point ≡ no
  pub leads : LeadToThemselves (length (points text)) room.leads.items
  pub solution : length room.solution.items ≡ length (points text)
  pub order : LeadToThemselves (length (points text)) room.order.items
  pub free : AreFreeInputs text state room.free.items

-- whether a point is an input that is no loading point
abbrev pub free_by : Drive → (load : Bool) → Bool
free_by Given load = not load
free_by (Flop clock next) load = false
free_by (Same other) load = false
free_by (Value source) load = false
free_by (Hold gate latched) load = false

-- points of a list lose their marks
pub record IsUnmarked (points : List ℕ) (old new : List Bool) : Type 0 where
  pub lost : (point : ℕ) → IsIn points point → slice_get new point ≡ Some false
  pub others : (point : ℕ) → (IsIn points point → ⊥) → slice_get new point ≡ slice_get old point

-- the same of one point, if there is one
pub record IsUnmarkedAt (at : Option ℕ) (old new : List Bool) : Type 0 where
  pub lost : (point : ℕ) → at ≡ Some point → slice_get new point ≡ Some false
  pub others : (point : ℕ) → at ≢ Some point → slice_get new point ≡ slice_get old point
