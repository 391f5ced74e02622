-- What follows from the definitions of this crate.
use Rattle.std.specs.Prelude.{◌≡◌, ◌↔◌, ℕ, ◌+◌, ◌<◌, ◌≤◌, List, length, Contains}
use Rattle.fab_legal.specs.fab_model.specs.Grid.{PlainFabric}
use Rattle.fab_legal.specs.fab_fabric.specs.Fabric.{AreTiles, wires_at, wire_count}
use Rattle.fab_legal.specs.fab_fabric.specs.Wires.{wire_index, numbered_wire}
use Rattle.fab_legal.specs.fab_fabric.specs.declared.wire.Wire.{Wire}
use Rattle.fab_legal.specs.fab_netlist.specs.Packed.{PlainPacked}
use Rattle.fab_legal.specs.fab_implementation.specs.Plain.{Pad, PlainImplementation}
use Rattle.fab_legal.specs.WellMade.{IsWellMadePacked}
use Rattle.fab_legal.specs.Lines.{ConstraintsHold}
use Rattle.fab_legal.specs.Legal.{ArePlaced, IsLegal}
use Rattle.fab_legal.specs.Steps.{IsStep}
use Rattle.fab_ways_laws.specs.Edges.{ends, ends_at, origins, place_of}
use Rattle.fab_ways_laws.specs.Routing.{Paths, Run, LeavesShared}
use Rattle.fab_ways_laws.specs.Trees.{trees_of, with_trees}
use Rattle.fab_ways_laws.specs.Mapping.{IsMapping}
use Rattle.fab_ways_laws.specs.Bounds.{IsSpan, least_edges, WalksTo}

-- ---- legality

-- on a placement that keeps the rules of sites, the last trees of a run are legal where no wire stands in two of them
abbrev pub UnsharedIsLegal : Type 0
UnsharedIsLegal =
    (fabric : PlainFabric) (packed : PlainPacked) (fixed : List Pad) (placement : PlainImplementation) (rounds : List (List Paths)) (last : List Paths) →
    IsWellMadePacked packed → ArePlaced fabric packed placement → ConstraintsHold fixed placement →
    Run fabric packed placement rounds last → 0 < length rounds → (LeavesShared last → ⊥) →
    IsLegal fabric packed fixed (with_trees placement (trees_of packed placement last))

abbrev pub MappingIsLegal : Type 0
MappingIsLegal =
    (fabric : PlainFabric) (packed : PlainPacked) (fixed : List Pad) (allowed : ℕ) (implementation : PlainImplementation) →
    IsWellMadePacked packed → IsMapping fabric packed fixed allowed implementation → IsLegal fabric packed fixed implementation

-- ---- edges

-- the edges of a wire lead where it may drive, and the edges to a wire come from what may drive it
abbrev pub EndsAreSteps : Type 0
EndsAreSteps =
    (fabric : PlainFabric) (index : ℕ) (to : Wire) → AreTiles fabric → index < wire_count fabric →
    Contains (ends fabric index) to ↔ IsStep fabric (numbered_wire index) to

abbrev pub OriginsAreSteps : Type 0
OriginsAreSteps =
    (fabric : PlainFabric) (index : ℕ) (from : Wire) → AreTiles fabric → index < wire_count fabric →
    Contains (origins fabric index) from ↔ IsStep fabric from (numbered_wire index)

-- the place of a wire, and its edges, are found by its number
abbrev pub PlaceIs : Type 0
PlaceIs = (fabric : PlainFabric) (x y number : ℕ) → number < wires_at fabric x y → place_of fabric (wire_index fabric x y number) ≡ (x, y, number)

abbrev pub EndsAreThere : Type 0
EndsAreThere = (fabric : PlainFabric) (x y number : ℕ) → number < wires_at fabric x y → ends fabric (wire_index fabric x y number) ≡ ends_at fabric x y number

-- ---- bounds

-- over an edge the bound falls by 1 at most
abbrev pub LeastIsConsistent : Type 0
LeastIsConsistent =
    (fabric : PlainFabric) (span : ℕ) (from to : Wire) (sink : ℕ) → AreTiles fabric → IsSpan fabric span → IsStep fabric from to →
    least_edges span fabric from.0 sink ≤ 1 + least_edges span fabric to.0 sink

abbrev pub LeastBoundsWalks : Type 0
LeastBoundsWalks =
    (fabric : PlainFabric) (span : ℕ) (from to : Wire) (edges : ℕ) → AreTiles fabric → IsSpan fabric span → WalksTo fabric from to edges →
    least_edges span fabric from.0 to.0 ≤ edges
