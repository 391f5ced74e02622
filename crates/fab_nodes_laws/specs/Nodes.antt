-- A graph of the matrix inputs of a fabric, over which nets can be routed: a matrix input drives an output by a pair, and the output is
-- joined to the next matrix input.
use Rattle.std.specs.Prelude.{◌≡◌, ◌↔◌, ℕ, ◌<◌, false, Contains}
use Rattle.std.specs.Option.{option_map_or}
use Rattle.fab_model.specs.Tiles.{is_matrix_output}
use Rattle.fab_model.specs.Wires.{PlainWire, wire_of}
use Rattle.fab_model.specs.Grid.{PlainFabric}
use Rattle.fab_fabric.specs.Wires.{numbered_wire, IsIndexOf}
use Rattle.fab_fabric.specs.declared.wire.Wire.{Wire}
use Rattle.fab_legal.specs.Steps.{IsPaired, IsJoined}
use Rattle.fab_astar.specs.Walks.{Graph}

-- a wire that no switch matrix drives: a destination bit, or an output pin of a BEL
pub record IsMatrixInput (fabric : PlainFabric) (wire : Wire) : Type 0 where
  pub x : ℕ
  pub y : ℕ
  pub plain : PlainWire
  pub is_wire : IsIndexOf fabric wire.0 x y plain
  pub undriven : option_map_or is_matrix_output (wire_of is_wire.is_wire.tile plain) false ≡ false

-- for each node the number of its wire, and that of the output that is joined to this wire, if there is one
pub record Numbering : Type 0 where
  pub wire : ℕ → ℕ
  pub output : ℕ → ℕ

-- a pair leads from a node to the output that is joined to the other node
pub record IsHop (fabric : PlainFabric) (numbering : Numbering) (from to : ℕ) : Type 0 where
  pub pair : IsPaired fabric (numbered_wire (numbering.wire from)) (numbered_wire (numbering.output to))
  pub join : IsJoined fabric (numbered_wire (numbering.output to)) (numbered_wire (numbering.wire to))

-- the nodes are the matrix inputs, one for each, and the edges are the hops
pub record AreNodes (fabric : PlainFabric) (graph : Graph) (numbering : Numbering) : Type 0 where
  pub inputs : (node : ℕ) → node < graph.nodes → IsMatrixInput fabric (numbered_wire (numbering.wire node))
  pub numbered : (wire : Wire) → IsMatrixInput fabric wire → (node : ℕ) × (node < graph.nodes) × (numbering.wire node ≡ wire.0)
  pub apart : (first second : ℕ) → first < graph.nodes → second < graph.nodes → numbering.wire first ≡ numbering.wire second → first ≡ second
  pub outputs : (node : ℕ) (output : Wire) → node < graph.nodes → IsJoined fabric output (numbered_wire (numbering.wire node)) → numbering.output node ≡ output.0
  pub ends : (from to : ℕ) → from < graph.nodes → Contains (graph.ends from) to ↔ ((to < graph.nodes) × IsHop fabric numbering from to)
