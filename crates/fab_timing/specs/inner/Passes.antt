-- What the passes over a design put into its tables.
use Rattle.std.specs.Prelude.{◌≡◌, ◌⊎◌, ℕ, ◌+◌, ◌*◌, ◌<◌, List, Vec, Contains, Some, None, length}
use Rattle.fab_kinds.specs.declared.kind.Kind.TheVariants as kinds
use Rattle.fab_kinds.specs.Pins.{lut_o, lut_sr}
use Rattle.fab_model.specs.Grid.{PlainFabric}
use Rattle.fab_fabric.specs.declared.wire.Site.{Site}
use Rattle.fab_fabric.specs.declared.wire.Wire.{Wire}
use Rattle.fab_netlist.specs.Plain.{IsAt}
use Rattle.fab_netlist.specs.Packed.{PlainCell, PlainPacked}
use Rattle.fab_implementation.specs.Plain.{Edge, PlainTree}
use Rattle.fab_implementation.specs.OnFabric.{kind_at}
use Rattle.fab_legal.specs.Steps.{IsJoined, pin_wire}
use Rattle.fab_ways_laws.specs.Bounds.{wire_distance}
use Rattle.fab_timing.specs.inner.Tables.{before_in}
use Rattle.fab_timing.specs.inner.Adding.{AddedBy}

-- a wire with its units, and a step from a wire to another with its units
abbrev pub TimedPin : Type 0
TimedPin = Wire × ℕ

abbrev pub TimedStep : Type 0
TimedStep = Wire × Wire × ℕ

-- the same in tables, in which wires are numbers
abbrev pub IsListed : List (ℕ × ℕ) → TimedPin → Type 0
IsListed pins pin = Contains pins (pin.0.0, pin.1)

abbrev pub HasStep : {A : Type 0} → List (Vec (ℕ × ℕ) A) → TimedStep → Type 0
HasStep before step = Contains (before_in before step.1.0) (step.0.0, step.2)

-- a node with units in a list, in which no node has two
abbrev pub AreApart : List (ℕ × ℕ) → Type 0
AreApart pins = (first second : ℕ × ℕ) → Contains pins first → Contains pins second → first.0 ≡ second.0 → first ≡ second

-- ---- pins

-- a pin of the site of a line
abbrev pub IsPinOf : {X : Type 0} → PlainFabric → (pin units : ℕ) → X × Site → TimedPin → Type 0
IsPinOf fabric pin units line at = at ≡ (pin_wire fabric line.1 pin, units)

-- the pin of this number
abbrev pub IsPin : PlainFabric → Site → (units pin : ℕ) → TimedPin → Type 0
IsPin fabric site units pin at = at ≡ (pin_wire fabric site pin, units)

-- O of a cell that has a latch
abbrev pub IsLatchStart : PlainFabric → Site → PlainCell → TimedPin → Type 0
IsLatchStart fabric site cell at = (init : ℕ) × (cell.latch ≡ Some init) × IsPin fabric site 3 lut_o at

-- a pin that a cell with a latch reads, or SR
abbrev pub IsLatchEnd : PlainFabric → Site → PlainCell → TimedPin → Type 0
IsLatchEnd fabric site cell at =
    (init : ℕ) × (cell.latch ≡ Some init) × (((pin : ℕ) × (pin < length cell.inputs) × IsPin fabric site 7 pin at) ⊎ IsPin fabric site 7 lut_sr at)

-- ---- lines of cells

-- a line of a cell that is there, with a site for it
pub record IsCellLine (fabric : PlainFabric) (packed : PlainPacked) (line : ℕ × Site) : Type 0 where
  pub known : line.0 < length packed.cells
  pub of_kind : kind_at fabric line.1 ≡ Some kinds.Lut4c

-- what the cell of a line adds at its site
abbrev pub OfLine : {Y : Type 0} → PlainPacked → (IsAdded : Site → PlainCell → Y → Type 0) → ℕ × Site → Y → Type 0
OfLine {Y} packed IsAdded line y = (cell : PlainCell) × IsAt packed.cells line.0 cell × IsAdded line.1 cell y

-- ---- steps

-- from a pin of a site to a wire
abbrev pub IsFromPin : PlainFabric → Site → (output : Wire) → (pin : ℕ) → TimedStep → Type 0
IsFromPin fabric site output pin step = step ≡ (pin_wire fabric site pin, output, 6)

-- through a cell without a latch
abbrev pub IsCellStep : PlainFabric → Site → PlainCell → TimedStep → Type 0
IsCellStep fabric site cell step =
    (cell.latch ≡ None) × ((pin : ℕ) × (pin < length cell.inputs) × IsFromPin fabric site (pin_wire fabric site lut_o) pin step)

-- the units of an edge: of a join, or else those of a pair
abbrev pub AreUnits : PlainFabric → (from to : Wire) → ℕ → Type 0
AreUnits fabric from to units = (IsJoined fabric from to × (units ≡ 1 + 2 * wire_distance fabric from.0 to.0)) ⊎ ((IsJoined fabric from to → ⊥) × (units ≡ 4))

abbrev pub IsEdgeStep : PlainFabric → Edge → TimedStep → Type 0
IsEdgeStep fabric edge step = (step.0 ≡ edge.0) × (step.1 ≡ edge.1) × AreUnits fabric edge.0 edge.1 step.2

abbrev pub IsTreeStep : PlainFabric → PlainTree → TimedStep → Type 0
IsTreeStep fabric tree = AddedBy (IsEdgeStep fabric) tree.edges
