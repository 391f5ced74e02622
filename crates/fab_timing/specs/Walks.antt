-- What a signal takes its time for on its way through a design: the places where it starts, each step, and the places where it is taken.
use Rattle.std.specs.Prelude.{◌≡◌, ℕ, ◌+◌, ◌*◌, ◌≤◌, List, [], ◌∷◌, Contains, Option, Some, None}
use Rattle.fab_kinds.specs.Pins.{lut_o, lut_sr, pad_i, pad_o}
use Rattle.fab_model.specs.Grid.{PlainFabric}
use Rattle.fab_fabric.specs.declared.wire.Site.{Site}
use Rattle.fab_fabric.specs.declared.wire.Wire.{Wire}
use Rattle.fab_netlist.specs.declared.net_id.NetId.{NetId}
use Rattle.fab_netlist.specs.Plain.{IsAt}
use Rattle.fab_netlist.specs.Packed.{PlainCell, PlainPacked}
use Rattle.fab_implementation.specs.Plain.{PlainTree, PlainImplementation}
use Rattle.fab_legal.specs.Steps.{IsPaired, IsJoined, pin_wire}
use Rattle.fab_ways_laws.specs.Bounds.{wire_distance}

-- A walk may begin at O of the pad of an input port, and at O of a cell with a latch.
pub data IsStart (fabric : PlainFabric) (packed : PlainPacked) (implementation : PlainImplementation) : Wire → (units : ℕ) → Type 0 where
  input_pad : {port : List ℕ} {site : Site} → Contains implementation.ins (port, site) → IsStart fabric packed implementation (pin_wire fabric site pad_o) 2
  latch_output : {number init : ℕ} {site : Site} {cell : PlainCell} → Contains implementation.cells (number, site) → IsAt packed.cells number cell → cell.latch ≡ Some init
      → IsStart fabric packed implementation (pin_wire fabric site lut_o) 3

-- one of the trees has the edge
pub record IsTreeEdge (implementation : PlainImplementation) (from to : Wire) : Type 0 where
  pub tree : PlainTree
  pub listed : Contains implementation.trees tree
  pub among : Contains tree.edges (from, to)

-- A step goes along an edge, which is a pair or a join, or from a pin that a cell without a latch reads to its O. A join takes
-- longer the farther its two tiles are apart.
pub data IsTimedStep (fabric : PlainFabric) (packed : PlainPacked) (implementation : PlainImplementation) : (from to : Wire) → (units : ℕ) → Type 0 where
  along_pair : {from to : Wire} → IsTreeEdge implementation from to → IsPaired fabric from to → IsTimedStep fabric packed implementation from to 4
  along_join : {from to : Wire} → IsTreeEdge implementation from to → IsJoined fabric from to → IsTimedStep fabric packed implementation from to (1 + 2 * wire_distance fabric from.0 to.0)
  through : (number pin : ℕ) (site : Site) (cell : PlainCell) (net : NetId) → Contains implementation.cells (number, site) → IsAt packed.cells number cell → cell.latch ≡ None
      → IsAt cell.inputs pin net → IsTimedStep fabric packed implementation (pin_wire fabric site pin) (pin_wire fabric site lut_o) 6

-- A walk may end at I of the pad of an output port, at a pin that a cell with a latch reads, and at SR of such a cell.
pub data IsEnd (fabric : PlainFabric) (packed : PlainPacked) (implementation : PlainImplementation) : Wire → (units : ℕ) → Type 0 where
  output_pad : {port : List ℕ} {site : Site} → Contains implementation.outs (port, site) → IsEnd fabric packed implementation (pin_wire fabric site pad_i) 2
  latch_input : {number pin init : ℕ} {site : Site} {cell : PlainCell} {net : NetId} → Contains implementation.cells (number, site) → IsAt packed.cells number cell → cell.latch ≡ Some init
      → IsAt cell.inputs pin net → IsEnd fabric packed implementation (pin_wire fabric site pin) 7
  latch_reset : {number init : ℕ} {site : Site} {cell : PlainCell} → Contains implementation.cells (number, site) → IsAt packed.cells number cell → cell.latch ≡ Some init
      → IsEnd fabric packed implementation (pin_wire fabric site lut_sr) 7

-- ---- walks

-- a wire on the way, and all units from the start to it
abbrev pub Stop : Type 0
Stop = Wire × ℕ

-- the stops of a walk in their order, and its delay
pub record PlainPath : Type 0 where
  pub delay : ℕ
  pub stops : List Stop

module _ (fabric : PlainFabric) (packed : PlainPacked) (implementation : PlainImplementation) where
  -- from a stop on, up to an end, whose units count in the delay and in no stop
  abbrev pub GoesOn : Stop → List Stop → (delay : ℕ) → Type 0
  GoesOn at [] delay = (units : ℕ) × IsEnd fabric packed implementation at.0 units × (delay ≡ at.1 + units)
  GoesOn at (next ∷ more) delay =
      (units : ℕ) × IsTimedStep fabric packed implementation at.0 next.0 units × (next.1 ≡ at.1 + units) × GoesOn next more delay

  -- from a start on
  abbrev pub IsTimedWalk : List Stop → (delay : ℕ) → Type 0
  IsTimedWalk [] delay = ⊥
  IsTimedWalk (first ∷ more) delay = IsStart fabric packed implementation first.0 first.1 × GoesOn first more delay

  -- Such a walk whose delay no other exceeds. Where no walk exists at all, it has no stops, and its delay is 0.
  pub data IsLongest : PlainPath → Type 0 where
    walk : {path : PlainPath} → IsTimedWalk path.stops path.delay → ((stops : List Stop) (delay : ℕ) → IsTimedWalk stops delay → delay ≤ path.delay) → IsLongest path
    none : ((stops : List Stop) (delay : ℕ) → IsTimedWalk stops delay → ⊥) → IsLongest (record { delay = 0; stops = [] })

  -- ---- sums at wires

  -- what begins at a start comes to a wire with this sum
  pub data Comes : Wire → (sum : ℕ) → Type 0 where
    begins : {wire : Wire} {units : ℕ} → IsStart fabric packed implementation wire units → Comes wire units
    goes : {from to : Wire} {sum units : ℕ} → Comes from sum → IsTimedStep fabric packed implementation from to units → Comes to (sum + units)

  -- none comes to the wire; or some do, and none with more
  abbrev pub IsLatestAt : Wire → Option ℕ → Type 0
  IsLatestAt wire None = (sum : ℕ) → Comes wire sum → ⊥
  IsLatestAt wire (Some sum) = Comes wire sum × ((other : ℕ) → Comes wire other → other ≤ sum)
