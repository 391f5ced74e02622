-- What routing over nodes says of routing over wires.
use Rattle.std.specs.Prelude.{◌≡◌, ◌↔◌, ℕ, ◌+◌, ◌<◌, ◌≤◌, List, [], map, Contains, length}
use Rattle.fab_model.specs.Grid.{PlainFabric}
use Rattle.fab_fabric.specs.Fabric.{AreTiles}
use Rattle.fab_netlist.specs.declared.net_id.NetId.{NetId}
use Rattle.fab_netlist.specs.Plain.{IsAt}
use Rattle.fab_netlist.specs.Packed.{PlainPacked}
use Rattle.fab_implementation.specs.Plain.{Pad, PlainImplementation}
use Rattle.fab_legal.specs.WellMade.{IsWellMadePacked}
use Rattle.fab_legal.specs.Lines.{ConstraintsHold}
use Rattle.fab_legal.specs.Legal.{ArePlaced, IsLegal}
use Rattle.fab_legal.specs.Sinks.{packed_net}
use Rattle.fab_astar.specs.Walks.{Graph}
use Rattle.fab_pathfinder.specs.Rounds as rounds
use Rattle.fab_ways_laws.specs.Routing.{Path, Paths, Walk, MayBegin, Run, LeavesShared, nets, sinks_of}
use Rattle.fab_ways_laws.specs.Trees.{trees_of, with_trees}
use Rattle.fab_nodes_laws.specs.Nodes.{Numbering, AreNodes}
use Rattle.fab_nodes_laws.specs.Nets.{AreNets, wire_trees, net_sinks}
use Rattle.fab_nodes_laws.specs.Tables.{Places, AreWithin, Hop, HasHops, left_to, IsTested, IsLowAtGoals}

-- A negotiated run over the nodes is one over the wires, and its last trees share a wire where they share a node, and only there.
abbrev pub NodeRunsAreRuns : Type 0
NodeRunsAreRuns =
    (fabric : PlainFabric) (packed : PlainPacked) (placement : PlainImplementation) (graph : Graph) (numbering : Numbering) (node_nets : List rounds.Net)
    (all : List (List Paths)) (last : List Paths) →
    AreTiles fabric → IsWellMadePacked packed → ArePlaced fabric packed placement →
    AreNodes fabric graph numbering → AreNets fabric packed placement graph numbering node_nets → rounds.Run graph node_nets all last →
    Run fabric packed placement (map (wire_trees numbering (net_sinks fabric packed placement)) all) (wire_trees numbering (net_sinks fabric packed placement) last)
    × (LeavesShared (wire_trees numbering (net_sinks fabric packed placement) last) ↔ rounds.LeavesShared last)

-- so where no node is shared, the trees of wires are legal on a placement that keeps the rules of sites
abbrev pub UnsharedNodesAreLegal : Type 0
UnsharedNodesAreLegal =
    (fabric : PlainFabric) (packed : PlainPacked) (fixed : List Pad) (placement : PlainImplementation) (graph : Graph) (numbering : Numbering) (node_nets : List rounds.Net)
    (all : List (List Paths)) (last : List Paths) →
    AreTiles fabric → IsWellMadePacked packed → ArePlaced fabric packed placement → ConstraintsHold fixed placement →
    AreNodes fabric graph numbering → AreNets fabric packed placement graph numbering node_nets → rounds.Run graph node_nets all last →
    0 < length all → (rounds.LeavesShared last → ⊥) →
    IsLegal fabric packed fixed (with_trees placement (trees_of packed placement (wire_trees numbering (net_sinks fabric packed placement) last)))

-- a sink that is cut off from the roots of its net over the nodes is cut off over the wires
abbrev pub CutOffHasNoWalk : Type 0
CutOffHasNoWalk =
    (fabric : PlainFabric) (packed : PlainPacked) (placement : PlainImplementation) (graph : Graph) (numbering : Numbering) (node_nets : List rounds.Net)
    (k place : ℕ) (net : NetId) (sink : ℕ) (path : Path) →
    AreTiles fabric → IsWellMadePacked packed → ArePlaced fabric packed placement →
    AreNodes fabric graph numbering → AreNets fabric packed placement graph numbering node_nets →
    rounds.IsCutOff graph node_nets k place → IsAt (nets packed) k net → IsAt (sinks_of fabric packed placement net) place sink →
    Walk fabric [] (MayBegin fabric placement (packed_net packed net) []) sink path → ⊥

-- a tested table falls by 2 at most over each edge, which is what an edge costs at least
abbrev pub TestedIsConsistent : Type 0
TestedIsConsistent =
    (graph : Graph) (places : Places) (hops : List Hop) (table : (class across down : ℕ) → ℕ) (x y from to : ℕ) →
    AreWithin graph places → HasHops graph places hops → IsTested table hops → x < 32 → y < 32 → from < graph.nodes → to < graph.nodes → Contains (graph.ends from) to →
    left_to table places x y from ≤ 2 + left_to table places x y to

-- at a goal, which is in the tile of its sink, it is 1 at most, which is what the sink costs
abbrev pub GoalsAreLow : Type 0
GoalsAreLow =
    (places : Places) (classes : List ℕ) (table : (class across down : ℕ) → ℕ) (x y node : ℕ) →
    IsLowAtGoals table classes → Contains classes (places.class node) → places.column node ≡ x → places.row node ≡ y → left_to table places x y node ≤ 1
