-- What is known stays known where more is known.
use Rattle.std.proofs.Common.{◌≡◌, ℕ, Option, None, Some, slice_get}
use Rattle.fab_systems_laws.specs.Ternary.{Tern, unknown}
use Rattle.fab_compiled.specs.Leading.{PointTerns, AreAbove, AgreeOnMarked, IsMarked}
use Rattle.fab_network.specs.declared.network.Clock.{Clock}
use Rattle.fab_network.specs.declared.network.Drive.{Drive}
use Rattle.fab_network.specs.declared.network.Drive.TheVariants.{Given, Flop, Same, Value, Hold}
use Rattle.fab_network.specs.declared.network.Network.{Network}
use Rattle.fab_network.specs.Passes.{kept_tern}
use Rattle.fab_demand.specs.Asked.{Asked, IsPossible}
use Rattle.fab_demand.specs.Demand.{IsDecided, IsKept, IsKeptBy, StandsForItself}

-- what is known now leaves no more possible than what was known before
pub record Grows (old new : Asked) : Type 0 where
  pub above : (t : PointTerns) → AreAbove new.terns new.leads t → AreAbove old.terns old.leads t
  pub possible : (t : PointTerns) → IsPossible new t → IsPossible old t
  pub marks : (point : ℕ) → IsMarked old.marks point → IsMarked new.marks point

module _ (network : Network) (clock : Clock) (given : PointTerns) (old new : Asked) (grows : Grows old new) where
  kept_by_before : (x y : Tern) (drive : Option Drive) → IsKeptBy network.trees.items clock new.terns new.leads x y drive →
      IsKeptBy network.trees.items clock old.terns old.leads x y drive
  kept_by_before x y None h = tt
  kept_by_before x y (Some Given) h = h
  kept_by_before x y (Some (Flop own next)) h = h
  kept_by_before x y (Some (Same other)) h = tt
  kept_by_before x y (Some (Value source)) h = tt
  kept_by_before x y (Some (Hold gate latched)) h = λ closed. h (λ t above. closed t (grows.above t above))

  pub kept_before : (later : PointTerns) → IsKept network clock given new.terns new.leads later → IsKept network clock given old.terns old.leads later
  kept_before later kept point = kept_by_before (given point) (later point) (slice_get network.drives.items point) (kept point)

  pub agree_before : (t u : PointTerns) → AgreeOnMarked new.marks t u → AgreeOnMarked old.marks t u
  agree_before t u agree point marked = agree point (grows.marks point marked)

  pub decided_grows : (point : ℕ) → IsDecided network clock given old point → IsDecided network clock given new point
  decided_grows point decided later t kept possible = decided later t (kept_before later kept) (grows.possible t possible)

  pub stands_grows : (point : ℕ) → kept_tern new.terns point ≡ unknown → StandsForItself network clock given old point →
      StandsForItself network clock given new point
  stands_grows point not_kept stands = record {
    not_kept = not_kept;
    enough = λ later t u kept at_t at_u agree. stands.enough later t u (kept_before later kept) (grows.possible t at_t) (grows.possible u at_u)
        (agree_before t u agree);
  }
