-- The answers of the router.
use Rattle.std.specs.Prelude.{◌≡◌, ℕ, ◌<◌, ◌≤◌, true, List, Vec, [], map, length, get_or, Contains}
use Rattle.fab_model.specs.Grid.{PlainFabric}
use Rattle.fab_fabric.specs.declared.wire.Wire.{Wire}
use Rattle.fab_netlist.specs.declared.net_id.NetId.{NetId}
use Rattle.fab_netlist.specs.Plain.{IsAt}
use Rattle.fab_netlist.specs.Packed.{PlainPacked}
use Rattle.fab_implementation.specs.Plain.{PlainTree, PlainImplementation}
use Rattle.fab_legal.specs.Sinks.{packed_net}
use Rattle.fab_ways_laws.specs.Routing.{Path, Paths, Walk, MayBegin, Run, LeavesShared, has, wires_of, users, nets, sinks_of}
use Rattle.fab_ways_laws.specs.Trees.{trees_of}
use Rattle.fab_route.specs.declared.router.RouteFault.{RouteFault}
use Rattle.fab_route.specs.declared.router.RouteFault.TheVariants as faults

-- a run of at most so many rounds leaves a wire in two trees
pub record IsLeftShared (fabric : PlainFabric) (packed : PlainPacked) (placement : PlainImplementation) (allowed : ℕ) : Type 0 where
  pub rounds : List (List Paths)
  pub last : List Paths
  pub run : Run fabric packed placement rounds last
  pub some_rounds : 0 < length rounds
  pub few_rounds : length rounds ≤ allowed
  pub shared : LeavesShared last

-- ---- no path

-- a walk comes to a wire from a root of a net
pub record IsReached (fabric : PlainFabric) (packed : PlainPacked) (placement : PlainImplementation) (net : NetId) (wire : ℕ) : Type 0 where
  pub path : Path
  pub walk : Walk fabric [] (MayBegin fabric placement (packed_net packed net) []) wire path

-- the first net in order with a sink to which no walk comes from its roots, and its first such sink
pub record IsCutOff (fabric : PlainFabric) (packed : PlainPacked) (placement : PlainImplementation) (net : NetId) (sink : Wire) : Type 0 where
  pub place : ℕ
  pub number : ℕ
  pub net_is : IsAt (nets packed) place net
  pub sink_is : IsAt (sinks_of fabric packed placement net) number sink.0
  pub apart : IsReached fabric packed placement net sink.0 → ⊥
  pub nets_before : (k : ℕ) (other : NetId) (wire : ℕ) → k < place → IsAt (nets packed) k other → Contains (sinks_of fabric packed placement other) wire →
      IsReached fabric packed placement other wire
  pub sinks_before : (k wire : ℕ) → k < number → IsAt (sinks_of fabric packed placement net) k wire → IsReached fabric packed placement net wire

-- ---- shared wires

-- the tree of the net at a place has a wire
abbrev pub HasWire : (trees : List Paths) → (place wire : ℕ) → Type 0
HasWire trees place wire = has (wires_of (get_or trees place [])) wire ≡ true

-- the first two nets in order whose trees have a wire
pub record AreFirstTwo (packed : PlainPacked) (trees : List Paths) (wire : ℕ) (first second : NetId) : Type 0 where
  pub place : ℕ
  pub next : ℕ
  pub order : place < next
  pub first_is : IsAt (nets packed) place first
  pub second_is : IsAt (nets packed) next second
  pub first_has : HasWire trees place wire
  pub second_has : HasWire trees next wire
  pub no_others : (k : ℕ) → k < next → HasWire trees k wire → k ≡ place

-- a run of all allowed rounds after which this is the least wire in two trees
pub record IsOverused (fabric : PlainFabric) (packed : PlainPacked) (placement : PlainImplementation) (allowed : ℕ) (wire : Wire) (first second : NetId) (told : List (List PlainTree)) : Type 0 where
  pub rounds : List (List Paths)
  pub last : List Paths
  pub run : Run fabric packed placement rounds last
  pub all_rounds : length rounds ≡ allowed
  pub nets_are : AreFirstTwo packed last wire.0 first second
  pub least : (other : ℕ) → 2 ≤ users last other → wire.0 ≤ other
  pub told_are : told ≡ map (trees_of packed placement) rounds

-- ---- faults

-- the trees of rounds without where they lie in memory
abbrev pub plain_rounds : {A : Type 0} → List (Vec PlainTree A) → List (List PlainTree)
plain_rounds rounds = map (λ trees. trees.items) rounds

-- a fault tells the truth
abbrev pub IsTrueFault : PlainFabric → PlainPacked → PlainImplementation → (allowed : ℕ) → RouteFault → Type 0
IsTrueFault fabric packed placement allowed (faults.NoPath net sink) = IsCutOff fabric packed placement net sink
IsTrueFault fabric packed placement allowed (faults.Overused wire first second rounds) = IsOverused fabric packed placement allowed wire first second (plain_rounds rounds.items)
IsTrueFault fabric packed placement allowed faults.Memory = Unit {0}
