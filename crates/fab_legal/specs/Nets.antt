-- The nets of an implementation: their names, their wires, and where they may begin.
use Rattle.std.specs.Prelude.{◌≡◌, ◌⊎◌, ℕ, List, [], ◌++◌, map, get_or, Contains}
use Rattle.fab_kinds.specs.Pins.{lut_o, pad_o}
use Rattle.fab_implementation.specs.fab_model.specs.Grid.{PlainFabric}
use Rattle.fab_implementation.specs.fab_model.specs.Drive.{zero_bit, one_bit}
use Rattle.fab_implementation.specs.fab_fabric.specs.declared.wire.Site.{Site}
use Rattle.fab_implementation.specs.fab_fabric.specs.declared.wire.Wire.{Wire}
use Rattle.fab_implementation.specs.fab_netlist.specs.declared.net_id.NetId.{NetId}
use Rattle.fab_implementation.specs.fab_netlist.specs.declared.net_id.NetId.TheVariants as ids
use Rattle.fab_implementation.specs.fab_netlist.specs.Packed.{PlainPacked}
use Rattle.fab_implementation.specs.Plain.{Edge, PlainTree, PlainImplementation}
use Rattle.fab_legal.specs.Turns.{AreRight}
use Rattle.fab_legal.specs.Lines.{named, IsCell, IsInput}
use Rattle.fab_legal.specs.Steps.{IsStep, IsConstant, pin_wire}

-- ---- names

pub data Net : Type 0 where
  zero_net : Net
  one_net : Net
  -- the net of an input port, by the port's name
  port_net : List ℕ → Net
  -- the net of a cell, by the cell's number
  cell_net : ℕ → Net

-- the net of a number, where these are the names of the inputs
abbrev pub net_among : (inputs : List (List ℕ)) → NetId → Net
net_among inputs ids.Zero = zero_net
net_among inputs ids.One = one_net
net_among inputs (ids.In number) = port_net (get_or inputs number [])
net_among inputs (ids.Cell number) = cell_net number

-- in the trees of an implementation inputs count the lines that name input ports
abbrev pub net_of : PlainImplementation → NetId → Net
net_of implementation net = net_among (named implementation.ins) net

-- ---- wires

-- the wires from which edges lead, and those which they enter
abbrev pub left_wires : List Edge → List Wire
left_wires edges = map (λ (edge : Edge). edge.0) edges

abbrev pub entered_wires : List Edge → List Wire
entered_wires edges = map (λ (edge : Edge). edge.1) edges

-- a wire is reached along edges from one that no edge enters
pub data Reached (edges : List Edge) : Wire → Type 0 where
  root : {wire : Wire} → (Contains (entered_wires edges) wire → ⊥) → Reached edges wire
  step : {wire : Wire} (from : Wire) → Contains edges (from, wire) → Reached edges from → Reached edges wire

-- a wire stands in a net
pub record StandsIn (implementation : PlainImplementation) (net : Net) (wire : Wire) : Type 0 where
  pub tree : PlainTree
  pub listed : Contains implementation.trees tree
  pub net_is : net_of implementation tree.net ≡ net
  pub has_wire : Contains (left_wires tree.edges ++ entered_wires tree.edges) wire

-- ---- what is asked of the edges of a net

abbrev pub IsRightStep : PlainFabric → List Edge → Edge → Type 0
IsRightStep fabric before edge = IsStep fabric edge.0 edge.1

-- an edge among those of its net enters a wire that no edge before it enters, and that is reached
pub record IsRightEntry (edges before : List Edge) (edge : Edge) : Type 0 where
  pub once : Contains (entered_wires before) edge.1 → ⊥
  pub reached : Reached edges edge.1

-- ---- what is asked of where a net begins

abbrev pub IsNet : PlainPacked → Net → Type 0
IsNet packed zero_net = Unit {0}
IsNet packed one_net = Unit {0}
IsNet packed (port_net port) = IsInput packed port
IsNet packed (cell_net number) = IsCell packed number

-- the wire of an output pin O of the site that a line gives to a thing
pub record IsSource {X : Type 0} (fabric : PlainFabric) (lines : List (X × Site)) (pin : ℕ) (thing : X) (wire : Wire) : Type 0 where
  pub site : Site
  pub listed : Contains lines (thing, site)
  pub wire_is : wire ≡ pin_wire fabric site pin

-- the net of an input begins at O of its pad, and that of a cell at O of its LUT4c
abbrev pub IsRoot : PlainFabric → PlainImplementation → Net → Wire → Type 0
IsRoot fabric implementation zero_net wire = IsConstant fabric zero_bit wire
IsRoot fabric implementation one_net wire = IsConstant fabric one_bit wire
IsRoot fabric implementation (port_net port) wire = IsSource fabric implementation.ins pad_o port wire
IsRoot fabric implementation (cell_net number) wire = IsSource fabric implementation.cells lut_o number wire

-- the first wire of an edge is entered by an edge of the net, or the net may begin there
abbrev pub IsRightStart : PlainFabric → PlainImplementation → PlainTree → List Edge → Edge → Type 0
IsRightStart fabric implementation tree before edge =
    Contains (entered_wires tree.edges) edge.0 ⊎ IsRoot fabric implementation (net_of implementation tree.net) edge.0

-- a net is one of the design, and no tree before it is of the same net
pub record IsRightName (packed : PlainPacked) (implementation : PlainImplementation) (before : List PlainTree) (tree : PlainTree) : Type 0 where
  pub exists : IsNet packed (net_of implementation tree.net)
  pub first : Contains (map (λ (other : PlainTree). net_of implementation other.net) before) (net_of implementation tree.net) → ⊥

pub record IsRightNet (fabric : PlainFabric) (packed : PlainPacked) (implementation : PlainImplementation) (before : List PlainTree) (tree : PlainTree) : Type 0 where
  pub name : IsRightName packed implementation before tree
  pub starts : AreRight (IsRightStart fabric implementation tree) tree.edges
