-- The nodes of a fabric as contracts see them.
use Rattle.std.specs.Prelude.{◌≡◌, ◌≤◌, ◌<◌, ◌+◌, ◌^◌, ℕ, List, [], ◌∷◌, length, slice_index, slice_range}
use Rattle.fab_fabric.specs.Wires.{numbered_wire}
use Rattle.fab_fabric.specs.declared.wire.Wire.{Wire}
use Rattle.fab_implementation.specs.Plain.{Edge}
use Rattle.fab_astar.specs.Walks.{Graph}
use Rattle.fab_nodes_laws.specs.Nodes.{Numbering}

pub record PlainNodes : Type 0 where
  -- the wire of each node, and the output that is joined to it
  pub wires : List ℕ
  pub outputs : List ℕ
  -- for each wire the number of matrix inputs before it
  pub nodes : List ℕ
  -- where the targets of each node begin, and the targets of all, one behind the other
  pub starts : List ℕ
  pub targets : List ℕ

abbrev pub graph_of : PlainNodes → Graph
graph_of n = record { nodes = length n.wires; ends = λ node. slice_range n.targets (slice_index n.starts node) (slice_index n.starts (node + 1)) }

abbrev pub numbering_of : PlainNodes → Numbering
numbering_of n = record { wire = slice_index n.wires; output = slice_index n.outputs }

-- the node of a wire that is a matrix input
abbrev pub node_of : PlainNodes → Wire → ℕ
node_of n wire = slice_index n.nodes wire.0

-- no entry of the tables is missing
pub record AreReadable (n : PlainNodes) : Type 0 where
  pub few : length n.wires ≤ 2 ^ 20
  pub as_many : length n.outputs ≡ length n.wires
  pub begins : length n.starts ≡ length n.wires + 1
  pub order : (node : ℕ) → node < length n.wires → slice_index n.starts node ≤ slice_index n.starts (node + 1)
  pub within : (node : ℕ) → node ≤ length n.wires → slice_index n.starts node ≤ length n.targets

-- the edges by which a walk comes from one node to the next
abbrev pub hop_edges : Numbering → (from to : ℕ) → List Edge
hop_edges numbering from to =
    (numbered_wire (numbering.wire from), numbered_wire (numbering.output to)) ∷ (numbered_wire (numbering.output to), numbered_wire (numbering.wire to)) ∷ []
