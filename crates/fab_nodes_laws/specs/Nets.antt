-- The nets of a packed design over the nodes of a fabric, and the trees of wires that trees of nodes stand for.
use Rattle.std.specs.Prelude.{◌≡◌, ◌↔◌, ℕ, ◌<◌, List, [], ◌∷◌, length, map, Contains}
use Rattle.fab_model.specs.Grid.{PlainFabric}
use Rattle.fab_fabric.specs.Wires.{numbered_wire}
use Rattle.fab_netlist.specs.declared.net_id.NetId.{NetId}
use Rattle.fab_netlist.specs.Plain.{IsAt}
use Rattle.fab_netlist.specs.Packed.{PlainPacked}
use Rattle.fab_implementation.specs.Plain.{PlainImplementation}
use Rattle.fab_legal.specs.Steps.{IsPaired}
use Rattle.fab_legal.specs.Nets.{IsRoot}
use Rattle.fab_legal.specs.Sinks.{packed_net}
use Rattle.fab_astar.specs.Walks.{Graph}
use Rattle.fab_pathfinder.specs.Rounds.{Net, Paths, net_at}
use Rattle.fab_ways_laws.specs.Routing.{nets, sinks_of}
use Rattle.fab_nodes_laws.specs.Nodes.{Numbering}

-- ---- nets

-- for each sink the nodes from which pairs lead to it
abbrev pub AreGoals : PlainFabric → Graph → Numbering → (sinks : List ℕ) → (goals : List (List ℕ)) → Type 0
AreGoals fabric graph numbering [] [] = Unit {0}
AreGoals fabric graph numbering [] (goal ∷ goals) = ⊥
AreGoals fabric graph numbering (sink ∷ sinks) [] = ⊥
AreGoals fabric graph numbering (sink ∷ sinks) (goal ∷ goals) =
    ((node : ℕ) → Contains goal node ↔ ((node < graph.nodes) × IsPaired fabric (numbered_wire (numbering.wire node)) (numbered_wire sink)))
    × AreGoals fabric graph numbering sinks goals

-- each net of the design has the nodes of its roots, and the goals of its sinks
pub record AreNets (fabric : PlainFabric) (packed : PlainPacked) (placement : PlainImplementation) (graph : Graph) (numbering : Numbering) (node_nets : List Net) : Type 0 where
  pub many : length node_nets ≡ length (nets packed)
  pub roots : (k : ℕ) (net : NetId) → IsAt (nets packed) k net → (node : ℕ) →
      Contains (net_at node_nets k).roots node ↔ ((node < graph.nodes) × IsRoot fabric placement (packed_net packed net) (numbered_wire (numbering.wire node)))
  pub goals : (k : ℕ) (net : NetId) → IsAt (nets packed) k net → AreGoals fabric graph numbering (sinks_of fabric packed placement net) (net_at node_nets k).goals

-- ---- trees

-- the wires of a walk of nodes, the last first: before each node but the first stands the output that is joined to it
abbrev pub wires_along : Numbering → (path : List ℕ) → List ℕ
wires_along numbering [] = []
wires_along numbering (node ∷ []) = numbering.wire node ∷ []
wires_along numbering (node ∷ (before ∷ path)) = numbering.wire node ∷ (numbering.output node ∷ wires_along numbering (before ∷ path))

-- for each sink the walk to the node before it, and the sink
abbrev pub wire_paths : Numbering → (sinks : List ℕ) → Paths → Paths
wire_paths numbering [] paths = []
wire_paths numbering (sink ∷ sinks) [] = []
wire_paths numbering (sink ∷ sinks) (path ∷ paths) = (sink ∷ wires_along numbering path) ∷ wire_paths numbering sinks paths

-- net by net
abbrev pub wire_trees : Numbering → (sinks : List (List ℕ)) → List Paths → List Paths
wire_trees numbering [] trees = []
wire_trees numbering (of_net ∷ sinks) [] = []
wire_trees numbering (of_net ∷ sinks) (tree ∷ trees) = wire_paths numbering of_net tree ∷ wire_trees numbering sinks trees

-- the sinks of each net
abbrev pub net_sinks : PlainFabric → PlainPacked → PlainImplementation → List (List ℕ)
net_sinks fabric packed placement = map (sinks_of fabric packed placement) (nets packed)
