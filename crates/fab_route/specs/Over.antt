-- When nodes are those of a fabric.
use Rattle.std.specs.Prelude.{◌≡◌, ◌<◌, ℕ, length}
use Rattle.fab_model.specs.Grid.{PlainFabric}
use Rattle.fab_fabric.specs.Fabric.{wire_count}
use Rattle.fab_fabric.specs.Wires.{numbered_wire}
use Rattle.fab_fabric.specs.declared.wire.Wire.{Wire}
use Rattle.fab_legal.specs.Steps.{IsPaired}
use Rattle.fab_astar.specs.Scene.{IsGraph}
use Rattle.fab_nodes_laws.specs.Nodes.{AreNodes, IsMatrixInput}
use Rattle.fab_route.specs.Plain.{PlainNodes, graph_of, numbering_of, node_of}

-- They are what the laws of routing over nodes ask for, and searches too. A matrix input has the node whose wire it is.
pub record IsOver (fabric : PlainFabric) (nodes : PlainNodes) : Type 0 where
  pub are_nodes : AreNodes fabric (graph_of nodes) (numbering_of nodes)
  pub is_graph : IsGraph (graph_of nodes)
  pub inside : (wire : Wire) → IsMatrixInput fabric wire → node_of nodes wire < (graph_of nodes).nodes
  pub there : (wire : Wire) → IsMatrixInput fabric wire → (numbering_of nodes).wire (node_of nodes wire) ≡ wire.0
  pub all : length nodes.nodes ≡ wire_count fabric

-- a pair leads from the wire of a node to a sink
pub record IsBefore (fabric : PlainFabric) (nodes : PlainNodes) (sink : Wire) (node : ℕ) : Type 0 where
  pub inside : node < (graph_of nodes).nodes
  pub pair : IsPaired fabric (numbered_wire ((numbering_of nodes).wire node)) sink
