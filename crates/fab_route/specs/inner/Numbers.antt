-- The tables of nodes: their wires, the outputs before them, and where their edges lead.
use Rattle.std.specs.Prelude.{◌≡◌, ℕ, ◌+◌, ◌<◌, ◌≤◌, Bool, List, Vec, ◌++◌, map, length, slice_index, slice_range, Contains}
use Rattle.fab_model.specs.Tiles.{PlainTile, tile_wires, is_matrix_output}
use Rattle.fab_model.specs.Grid.{PlainFabric}
use Rattle.fab_fabric.specs.Wires.{numbered_wire}
use Rattle.fab_fabric.specs.declared.wire.Wire.{Wire}
use Rattle.fab_legal.specs.Steps.{IsJoined}
use Rattle.fab_ways_laws.specs.Edges.{ends}
use Rattle.fab_nodes_laws.specs.Nodes.{IsMatrixInput}

-- for each tile type whether its switch matrix drives its wires
abbrev pub HaveDriven : {A : Type 0} → List PlainTile → List (Vec Bool A) → Type 0
HaveDriven types tables = map (λ marks. marks.items) tables ≡ map (λ tile. map is_matrix_output (tile_wires tile)) types

-- Of the first n wires the matrix inputs are these, in order, and a matrix input has the number of those before it.
pub record AreNumbered (fabric : PlainFabric) (n : ℕ) (wires nodes : List ℕ) : Type 0 where
  pub long : length nodes ≡ n
  pub few : length wires ≤ n
  pub low : (node : ℕ) → node < length wires → slice_index wires node < n
  pub inputs : (node : ℕ) → node < length wires → IsMatrixInput fabric (numbered_wire (slice_index wires node))
  pub back : (node : ℕ) → node < length wires → slice_index nodes (slice_index wires node) ≡ node
  pub inside : (wire : ℕ) → wire < n → IsMatrixInput fabric (numbered_wire wire) → slice_index nodes wire < length wires
  pub there : (wire : ℕ) → wire < n → IsMatrixInput fabric (numbered_wire wire) → slice_index wires (slice_index nodes wire) ≡ wire

-- the outputs that are joined to the wires of the first n nodes
abbrev pub AreBefore : PlainFabric → (n : ℕ) → (wires outputs : List ℕ) → Type 0
AreBefore fabric n wires outputs =
    (node : ℕ) (output : Wire) → node < n → IsJoined fabric output (numbered_wire (slice_index wires node)) → slice_index outputs node ≡ output.0

-- ---- targets

-- these ends are joined to wires, and the nodes of these wires are the targets
pub record AreTargets (fabric : PlainFabric) (nodes : List ℕ) (ends : List Wire) (targets : List ℕ) : Type 0 where
  pub sound : (to : ℕ) → Contains targets to → (end : Wire) × (wire : Wire) × Contains ends end × IsJoined fabric end wire × (to ≡ slice_index nodes wire.0)
  pub whole : (end wire : Wire) → Contains ends end → IsJoined fabric end wire → Contains targets (slice_index nodes wire.0)

-- their targets stand behind others
pub record Adds (fabric : PlainFabric) (nodes : List ℕ) (ends : List Wire) (old new : List ℕ) : Type 0 where
  pub added : List ℕ
  pub is : new ≡ old ++ added
  pub targets : AreTargets fabric nodes ends added

-- the targets of the first n nodes, one behind the other, and where those of each begin
pub record AreFlat (fabric : PlainFabric) (wires nodes : List ℕ) (n : ℕ) (starts targets : List ℕ) : Type 0 where
  pub long : length starts ≡ n + 1
  pub end : slice_index starts n ≡ length targets
  pub order : (node : ℕ) → node < n → slice_index starts node ≤ slice_index starts (node + 1)
  pub within : (node : ℕ) → node ≤ n → slice_index starts node ≤ length targets
  pub each : (node : ℕ) → node < n → AreTargets fabric nodes (ends fabric (slice_index wires node)) (slice_range targets (slice_index starts node) (slice_index starts (node + 1)))
