-- What a machine is made of.
use Rattle.std.specs.Prelude.{◌≡◌, ◌≢◌, ◌⊎◌, ◌↔◌, ℕ, ◌+◌, ◌<◌, ◌≤◌, ◌^◌, Bool, true, false, List, length, slice_get, Some}
use Rattle.fab_syntax.specs.Plain.{PlainModule}
use Rattle.fab_syntax.specs.Sound.{IsSound}
use Rattle.fab_sound.specs.Narrow.{AreNarrow}
use Rattle.fab_systems_laws.specs.Ternary.{no, yes, unknown}
use Rattle.fab_meaning.specs.Points.{Point, Driver, Drives, IsStored}
use Rattle.fab_meaning.specs.Loading.{IsLoading}
use Rattle.fab_equations.specs.Instances.{points}
use Rattle.fab_equations.specs.Equations.{IsPoint}
use Rattle.fab_compiled.specs.Leading.{PointTerns}
use Rattle.fab_network.specs.declared.network.Network.{Network}
use Rattle.fab_network.specs.Network.{AreFit}
use Rattle.fab_wiring.specs.Wiring.{AreDrives}
use Rattle.fab_state_points.specs.Standing.{data_width, first_data}
use Rattle.fab_state_points.specs.declared.points.DataPoints.{DataPoints}
use Rattle.fab_state_points.specs.declared.points.Stream.{Stream}

-- A network is that of a sound text.
pub record IsNetworkOf (text : List PlainModule) (network : Network) : Type 0 where
  pub sound : IsSound text
  pub narrow : AreNarrow text
  pub few : length (points text) < 2 ^ 32
  pub long : length network.drives.items ≡ length (points text)
  pub fit : AreFit network.trees.items network.drives.items
  pub drives : AreDrives text network.trees.items network.drives.items

-- Of flip-flops and latches those are marked that are loading points, and nothing else is.
pub record AreLoads (text : List PlainModule) (loads : List Bool) : Type 0 where
  pub long : length loads ≡ length (points text)
  pub sound : (number : ℕ) (p : Point) (d : Driver) → IsPoint text number p → Drives text p d → IsStored d → slice_get loads number ≡ Some true →
      IsLoading text p
  pub whole : (number : ℕ) (p : Point) (d : Driver) → IsPoint text number p → Drives text p d → IsStored d → IsLoading text p →
      slice_get loads number ≡ Some true
  pub others : (number : ℕ) (p : Point) (d : Driver) → IsPoint text number p → Drives text p d → ¬ IsStored d → slice_get loads number ≡ Some false

-- Just the loading points are marked.
pub record AreLoadingPoints (text : List PlainModule) (loads : List Bool) : Type 0 where
  pub long : length loads ≡ length (points text)
  pub marked : (number : ℕ) (p : Point) → IsPoint text number p → (slice_get loads number ≡ Some true) ↔ IsLoading text p

-- none of the points of WriteData
abbrev pub IsNoData : DataPoints → (number : ℕ) → Type 0
IsNoData carrier number = (number < first_data carrier) ⊎ (first_data carrier + data_width carrier ≤ number)

-- What is given at first: WriteStrobe is 1, WriteData is open, and all else is 0.
pub record IsGivenFirst (count : ℕ) (stream : Stream) (given : PointTerns) : Type 0 where
  pub strobe_is : IsNoData stream.carrier stream.strobe → given stream.strobe ≡ yes
  pub carrier : (bit : ℕ) → bit < data_width stream.carrier → given (first_data stream.carrier + bit) ≡ unknown
  pub others : (number : ℕ) → number < count → number ≢ stream.strobe → IsNoData stream.carrier number → given number ≡ no
