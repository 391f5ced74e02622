-- Solutions by the numbers of points: inputs and flip-flops have what is given to them, and each other point has what it shows.
use Rattle.std.specs.Prelude.{◌≡◌, ℕ, ◌<◌, List, Option, None, Some, length, slice_get}
use Rattle.fab_systems_laws.specs.Ternary.{Tern, unknown, IsBelow}
use Rattle.fab_compiled.specs.fab_ternary_laws_Shown.{through}
use Rattle.fab_compiled.specs.declared.tree.Tree.{Tree}
use Rattle.fab_compiled.specs.Leading.{PointTerns}
use Rattle.fab_network.specs.declared.network.Drive.{Drive}
use Rattle.fab_network.specs.declared.network.Drive.TheVariants.{Given, Flop, Same, Value, Hold}
use Rattle.fab_network.specs.Network.{source_tern}

-- What a drive asks of its point, where this is given to an input, or held by a flip-flop or a latch. It is `drive_tern`, but that what is given
-- does not stand in the assignment.
abbrev pub asked_by : List Tree → (given : Tern) → PointTerns → Option Drive → Tern
asked_by trees given t None = unknown
asked_by trees given t (Some Given) = given
asked_by trees given t (Some (Flop clock next)) = given
asked_by trees given t (Some (Same other)) = t other
asked_by trees given t (Some (Value source)) = source_tern trees t source
asked_by trees given t (Some (Hold gate latched)) = through (source_tern trees t gate) (source_tern trees t latched) given

abbrev pub asked_tern : List Tree → List Drive → (given : PointTerns) → PointTerns → (point : ℕ) → Tern
asked_tern trees drives given t point = asked_by trees (given point) t (slice_get drives point)

-- each point has what its drive asks of it
abbrev pub Solves : List Tree → List Drive → (given t : PointTerns) → Type 0
Solves trees drives given t = (point : ℕ) → point < length drives → t point ≡ asked_tern trees drives given t point

-- a solution whose known values stand in every solution
pub record IsLeast (trees : List Tree) (drives : List Drive) (given t : PointTerns) : Type 0 where
  pub solves : Solves trees drives given t
  pub least : (u : PointTerns) → Solves trees drives given u → (point : ℕ) → point < length drives → IsBelow (t point) (u point)
