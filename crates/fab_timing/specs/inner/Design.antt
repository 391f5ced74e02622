-- Tables that have the starts, the steps and the ends of a design, and the path that is found in them.
use Rattle.std.specs.Prelude.{◌≡◌, ◌↔◌, ℕ, List, [], Contains, Option, Some, None}
use Rattle.fab_model.specs.Grid.{PlainFabric}
use Rattle.fab_fabric.specs.Wires.{numbered_wire}
use Rattle.fab_fabric.specs.declared.wire.Wire.{Wire}
use Rattle.fab_netlist.specs.Packed.{PlainPacked}
use Rattle.fab_implementation.specs.Plain.{PlainImplementation}
use Rattle.fab_timing.specs.Walks.{IsStart, IsTimedStep, IsEnd, PlainPath}
use Rattle.fab_timing.specs.inner.Arrivals.{PlainSteps}
use Rattle.fab_timing.specs.inner.Tables.{IsTrail, IsLatestEnd}

-- Nodes are wires by their numbers, and have the starts and the steps of a design.
pub record StepsAre (fabric : PlainFabric) (packed : PlainPacked) (implementation : PlainImplementation) (steps : PlainSteps) : Type 0 where
  pub starts : (wire : Wire) (units : ℕ) → (steps.starts wire.0 ≡ Some units) ↔ IsStart fabric packed implementation wire units
  pub before : (from to : Wire) (units : ℕ) → Contains (steps.before to.0) (from.0, units) ↔ IsTimedStep fabric packed implementation from to units

-- These are the starts of a design, and these its ends.
abbrev pub StartsAre : PlainFabric → PlainPacked → PlainImplementation → List (ℕ × ℕ) → Type 0
StartsAre fabric packed implementation starts = (wire : Wire) (units : ℕ) → Contains starts (wire.0, units) ↔ IsStart fabric packed implementation wire units

abbrev pub EndsAre : PlainFabric → PlainPacked → PlainImplementation → List (ℕ × ℕ) → Type 0
EndsAre fabric packed implementation ends = (wire : Wire) (units : ℕ) → Contains ends (wire.0, units) ↔ IsEnd fabric packed implementation wire units

-- A trail to an end of greatest delay, with this delay; or none, where no end is reached.
pub data IsPathTo (steps : PlainSteps) (ends : List (ℕ × ℕ)) (latest : ℕ → Option ℕ) : PlainPath → Type 0 where
  trail : {path : PlainPath} (end : ℕ) → IsLatestEnd ends latest (Some (end, path.delay)) → ((sum : ℕ) → latest end ≡ Some sum → IsTrail steps path.stops (numbered_wire end, sum))
      → IsPathTo steps ends latest path
  nothing : IsLatestEnd ends latest None → IsPathTo steps ends latest (record { delay = 0; stops = [] })
