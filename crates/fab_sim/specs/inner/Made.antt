-- How a machine is put together.
use Rattle.std.specs.Prelude.{◌≡◌, Bool, false, List, length}
use Rattle.fab_network.specs.declared.network.Drive.{Drive}
use Rattle.fab_network.specs.declared.network.Drive.TheVariants.{Given, Flop, Same, Value, Hold}
use Rattle.fab_network.specs.declared.network.Network.{Network}
use Rattle.fab_network.specs.Passes.{kept_tern}
use Rattle.fab_phases.specs.Words.{IsLoadingAt}
use Rattle.fab_state_points.specs.Standing.{data_width, first_data}
use Rattle.fab_state_points.specs.declared.points.StatePoints.{StatePoints}
use Rattle.fab_sim.specs.Making.{IsGivenFirst}
use Rattle.fab_sim.specs.declared.machine.Machine.{Machine}

-- It has these parts, and all that loading sets has been gathered and asked for.
pub record IsMadeOf (network : Network) (state_points : StatePoints) (loads : List Bool) (machine : Machine) : Type 0 where
  pub network_is : machine.network ≡ network
  pub points_are : machine.points ≡ state_points
  pub given : length machine.given.items ≡ length network.drives.items
  pub demand : length machine.demand.leads ≡ length network.drives.items
  pub first : IsGivenFirst (length network.drives.items) state_points.stream (kept_tern machine.given.items)
  pub loading : IsLoadingAt network machine.loading loads (first_data state_points.stream.carrier) (data_width state_points.stream.carrier) machine.demand machine.given.items

-- the mark of a point, if it is a flip-flop or a latch
abbrev pub stored_by : Drive → (load : Bool) → Bool
stored_by Given load = false
stored_by (Flop clock next) load = load
stored_by (Same other) load = false
stored_by (Value source) load = false
stored_by (Hold gate latched) load = load
