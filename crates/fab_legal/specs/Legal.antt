-- When an implementation is legal.
use Rattle.std.specs.Prelude.{◌≡◌, List}
use Rattle.fab_implementation.specs.fab_model.specs.Grid.{PlainFabric}
use Rattle.fab_implementation.specs.fab_fabric.specs.declared.wire.Wire.{Wire}
use Rattle.fab_implementation.specs.fab_netlist.specs.Packed.{PlainPacked}
use Rattle.fab_implementation.specs.Plain.{Pad, PlainTree, PlainImplementation}
use Rattle.fab_legal.specs.Turns.{AreRight}
use Rattle.fab_legal.specs.Lines.{CellsHaveSites, SitesDiffer, PortsHavePads, ConstraintsHold}
use Rattle.fab_legal.specs.Nets.{Net, StandsIn, IsRightStep, IsRightEntry, IsRightNet}
use Rattle.fab_legal.specs.Sinks.{Required}

-- each cell and each port has a site of its own
pub record ArePlaced (fabric : PlainFabric) (packed : PlainPacked) (implementation : PlainImplementation) : Type 0 where
  pub cells : CellsHaveSites fabric packed implementation
  pub sites : SitesDiffer implementation
  pub ports : PortsHavePads fabric packed implementation

-- each edge is a pair or a join of the fabric
abbrev pub HasRightSteps : PlainFabric → List PlainTree → PlainTree → Type 0
HasRightSteps fabric before tree = AreRight (IsRightStep fabric) tree.edges

abbrev pub EdgesAreSteps : PlainFabric → PlainImplementation → Type 0
EdgesAreSteps fabric implementation = AreRight (HasRightSteps fabric) implementation.trees

-- each wire that an edge of a net enters is entered once and reached from one that no edge enters
abbrev pub HasRightEntries : List PlainTree → PlainTree → Type 0
HasRightEntries before tree = AreRight (IsRightEntry tree.edges) tree.edges

abbrev pub WiresAreReached : PlainImplementation → Type 0
WiresAreReached implementation = AreRight HasRightEntries implementation.trees

-- each net exists, is named once, and begins where it may
abbrev pub NetsBeginRight : PlainFabric → PlainPacked → PlainImplementation → Type 0
NetsBeginRight fabric packed implementation = AreRight (IsRightNet fabric packed implementation) implementation.trees

-- each required sink stands in its net
abbrev pub SinksStand : PlainFabric → PlainPacked → PlainImplementation → Type 0
SinksStand fabric packed implementation = (net : Net) (wire : Wire) → Required fabric packed implementation net wire → StandsIn implementation net wire

-- a wire stands in one net at most
abbrev pub IsApart : PlainImplementation → Wire → Type 0
IsApart implementation wire = (first second : Net) → StandsIn implementation first wire → StandsIn implementation second wire → first ≡ second

abbrev pub NetsAreApart : PlainImplementation → Type 0
NetsAreApart implementation = (wire : Wire) → IsApart implementation wire

-- the nine rules in their order, of which the first three are about sites
pub record IsLegal (fabric : PlainFabric) (packed : PlainPacked) (fixed : List Pad) (implementation : PlainImplementation) : Type 0 where
  pub placed : ArePlaced fabric packed implementation
  pub constraints : ConstraintsHold fixed implementation
  pub steps : EdgesAreSteps fabric implementation
  pub reached : WiresAreReached implementation
  pub nets : NetsBeginRight fabric packed implementation
  pub sinks : SinksStand fabric packed implementation
  pub apart : NetsAreApart implementation
