-- Which rule an implementation breaks first, and with what.
use Rattle.std.specs.Prelude.{◌≡◌, ◌≢◌, ℕ, ◌<◌, List, ◌++◌, Contains, codes, decimal, take}
use Rattle.fab_base.specs.declared.fault.Fault.{Fault}
use Rattle.fab_base.specs.declared.fault.Fault.TheVariants as ends
use Rattle.fab_kinds.specs.declared.kind.Kind.TheVariants as kinds
use Rattle.fab_implementation.specs.fab_model.specs.Grid.{PlainFabric}
use Rattle.fab_implementation.specs.fab_fabric.specs.Fabric.{wires_at}
use Rattle.fab_implementation.specs.fab_fabric.specs.Wires.{wire_index, numbered_wire}
use Rattle.fab_implementation.specs.fab_fabric.specs.Names.{full_name, name_at, site_text}
use Rattle.fab_implementation.specs.fab_fabric.specs.declared.wire.Site.{Site}
use Rattle.fab_implementation.specs.fab_fabric.specs.declared.wire.Wire.{Wire}
use Rattle.fab_implementation.specs.fab_netlist.specs.declared.net_id.NetId.{NetId}
use Rattle.fab_implementation.specs.fab_netlist.specs.Packed.{PlainPacked}
use Rattle.fab_implementation.specs.Plain.{Edge, Pad, PlainTree, PlainImplementation}
use Rattle.fab_legal.specs.declared.broken.CheckFault.{CheckFault}
use Rattle.fab_legal.specs.declared.broken.CheckFault.TheVariants as faults
use Rattle.fab_implementation.specs.fab_netlist.specs.Plain.{IsAt}
use Rattle.fab_legal.specs.Turns.{AreRight, FirstAreRight, IsFirstWrong}
use Rattle.fab_legal.specs.WellMade.{output_ports, IsWellMadePacked}
use Rattle.fab_legal.specs.Lines.{named, IsRightLine, IsCell, IsInput, IsOutput, sites, IsNew, StandsOn, CellsHaveSites, SitesDiffer, ConstraintsHold}
use Rattle.fab_legal.specs.Nets.{Net, zero_net, one_net, port_net, cell_net, net_of, StandsIn, IsRightStep, IsRightEntry, IsRightStart, IsRightName, IsRightNet}
use Rattle.fab_legal.specs.Sinks.{sinks, packed_net}
use Rattle.fab_legal.specs.Legal.{IsLegal, HasRightSteps, HasRightEntries, EdgesAreSteps, WiresAreReached, NetsBeginRight, SinksStand, IsApart, ArePlaced}

-- ---- how items are written

abbrev pub cell_text : ℕ → List ℕ
cell_text number = codes "c" ++ decimal number

abbrev pub net_text : Net → List ℕ
net_text zero_net = codes "zero"
net_text one_net = codes "one"
net_text (port_net port) = codes "in " ++ port
net_text (cell_net number) = codes "cell " ++ cell_text number

-- the text of a wire: its place and its matrix name
pub record IsWireText (fabric : PlainFabric) (wire : Wire) (text : List ℕ) : Type 0 where
  pub x : ℕ
  pub y : ℕ
  pub number : ℕ
  pub inside : number < wires_at fabric x y
  pub wire_is : wire ≡ numbered_wire (wire_index fabric x y number)
  pub text_is : text ≡ full_name x y (name_at fabric x y number)

-- ---- the first item that breaks a rule

-- the least cell that no line names
pub record IsFirstUnnamedCell (packed : PlainPacked) (implementation : PlainImplementation) (number : ℕ) : Type 0 where
  pub is_cell : IsCell packed number
  pub unnamed : Contains (named implementation.cells) number → ⊥
  pub before : (less : ℕ) → less < number → Contains (named implementation.cells) less

pub data IsCellItem (fabric : PlainFabric) (packed : PlainPacked) (implementation : PlainImplementation) : List ℕ → Type 0 where
  wrong_line : {line : ℕ × Site} → IsFirstWrong (IsRightLine fabric kinds.Lut4c (IsCell packed)) implementation.cells line → IsCellItem fabric packed implementation (cell_text line.0)
  unnamed : {number : ℕ} → AreRight (IsRightLine fabric kinds.Lut4c (IsCell packed)) implementation.cells → IsFirstUnnamedCell packed implementation number
      → IsCellItem fabric packed implementation (cell_text number)

pub data IsSiteItem (implementation : PlainImplementation) : List ℕ → Type 0 where
  again : {site : Site} → IsFirstWrong IsNew (sites implementation) site → IsSiteItem implementation (site_text site)

-- a port is named by one of the lines
abbrev pub IsNamedBy : List Pad → List (List ℕ) → List ℕ → Type 0
IsNamedBy lines before port = Contains (named lines) port

abbrev pub AreRightPads : PlainFabric → (IsKnown : List ℕ → Type 0) → List Pad → Type 0
AreRightPads fabric IsKnown lines = AreRight (IsRightLine fabric kinds.Io IsKnown) lines

pub data IsPortItem (fabric : PlainFabric) (packed : PlainPacked) (implementation : PlainImplementation) : List ℕ → Type 0 where
  wrong_in : {line : Pad} → IsFirstWrong (IsRightLine fabric kinds.Io (IsInput packed)) implementation.ins line → IsPortItem fabric packed implementation line.0
  wrong_out : {line : Pad} → AreRightPads fabric (IsInput packed) implementation.ins → IsFirstWrong (IsRightLine fabric kinds.Io (IsOutput packed)) implementation.outs line
      → IsPortItem fabric packed implementation line.0
  unnamed_in : {port : List ℕ} → AreRightPads fabric (IsInput packed) implementation.ins → AreRightPads fabric (IsOutput packed) implementation.outs
      → IsFirstWrong (IsNamedBy implementation.ins) packed.inputs port → IsPortItem fabric packed implementation port
  unnamed_out : {port : List ℕ} → AreRightPads fabric (IsInput packed) implementation.ins → AreRightPads fabric (IsOutput packed) implementation.outs
      → AreRight (IsNamedBy implementation.ins) packed.inputs → IsFirstWrong (IsNamedBy implementation.outs) (output_ports packed) port → IsPortItem fabric packed implementation port

pub data IsConstraintItem (fixed : List Pad) (implementation : PlainImplementation) : List ℕ → Type 0 where
  elsewhere : {pad : Pad} → IsFirstWrong (StandsOn implementation) fixed pad → IsConstraintItem fixed implementation pad.0

-- the second wire of the first wrong edge of the first tree that has one
pub record IsEdgeItem (fabric : PlainFabric) (IsRightTree : List PlainTree → PlainTree → Type 0) (IsRightEdge : PlainTree → List Edge → Edge → Type 0)
    (trees : List PlainTree) (item : List ℕ) : Type 0 where
  pub tree : PlainTree
  pub edge : Edge
  pub first_tree : IsFirstWrong IsRightTree trees tree
  pub first_edge : IsFirstWrong (IsRightEdge tree) tree.edges edge
  pub text : IsWireText fabric edge.1 item

abbrev pub IsStepItem : PlainFabric → PlainImplementation → List ℕ → Type 0
IsStepItem fabric implementation item = IsEdgeItem fabric (HasRightSteps fabric) (λ tree. IsRightStep fabric) implementation.trees item

abbrev pub IsEntryItem : PlainFabric → PlainImplementation → List ℕ → Type 0
IsEntryItem fabric implementation item = IsEdgeItem fabric HasRightEntries (λ tree. IsRightEntry tree.edges) implementation.trees item

-- in the first wrong net: its name, or else the first wire at which it may not begin
pub data IsNetItem (fabric : PlainFabric) (packed : PlainPacked) (implementation : PlainImplementation) : List ℕ → Type 0 where
  name : {place : ℕ} {tree : PlainTree} → IsAt implementation.trees place tree → FirstAreRight (IsRightNet fabric packed implementation) implementation.trees place
      → (IsRightName packed implementation (take place implementation.trees) tree → ⊥) → IsNetItem fabric packed implementation (net_text (net_of implementation tree.net))
  start : {place : ℕ} {tree : PlainTree} {edge : Edge} {item : List ℕ} → IsAt implementation.trees place tree
      → FirstAreRight (IsRightNet fabric packed implementation) implementation.trees place → IsRightName packed implementation (take place implementation.trees) tree
      → IsFirstWrong (IsRightStart fabric implementation tree) tree.edges edge → IsWireText fabric edge.0 item → IsNetItem fabric packed implementation item

abbrev pub StandsInItsNet : PlainPacked → PlainImplementation → List (NetId × Wire) → NetId × Wire → Type 0
StandsInItsNet packed implementation before sink = StandsIn implementation (packed_net packed sink.0) sink.1

pub record IsSinkItem (fabric : PlainFabric) (packed : PlainPacked) (implementation : PlainImplementation) (item : List ℕ) : Type 0 where
  pub sink : NetId × Wire
  pub first : IsFirstWrong (StandsInItsNet packed implementation) (sinks fabric packed implementation) sink
  pub text : IsWireText fabric sink.1 item

-- the wire of least number that stands in two nets
pub record IsSharedItem (fabric : PlainFabric) (implementation : PlainImplementation) (item : List ℕ) : Type 0 where
  pub wire : Wire
  pub one_net : Net
  pub other_net : Net
  pub in_one : StandsIn implementation one_net wire
  pub in_other : StandsIn implementation other_net wire
  pub two : one_net ≢ other_net
  pub least : (other : Wire) → other.0 < wire.0 → IsApart implementation other
  pub text : IsWireText fabric wire item

-- ---- the first broken rule

-- the rules before this one hold, and this one is broken, first by this item
pub data IsFirstBroken (fabric : PlainFabric) (packed : PlainPacked) (fixed : List Pad) (implementation : PlainImplementation) : ℕ → List ℕ → Type 0 where
  rule_1 : {item : List ℕ} → IsCellItem fabric packed implementation item → IsFirstBroken fabric packed fixed implementation 1 item
  rule_2 : {item : List ℕ} → CellsHaveSites fabric packed implementation → IsSiteItem implementation item → IsFirstBroken fabric packed fixed implementation 2 item
  rule_3 : {item : List ℕ} → CellsHaveSites fabric packed implementation → SitesDiffer implementation → IsPortItem fabric packed implementation item
      → IsFirstBroken fabric packed fixed implementation 3 item
  rule_4 : {item : List ℕ} → ArePlaced fabric packed implementation → IsConstraintItem fixed implementation item → IsFirstBroken fabric packed fixed implementation 4 item
  rule_5 : {item : List ℕ} → ArePlaced fabric packed implementation → ConstraintsHold fixed implementation → IsStepItem fabric implementation item
      → IsFirstBroken fabric packed fixed implementation 5 item
  rule_6 : {item : List ℕ} → ArePlaced fabric packed implementation → ConstraintsHold fixed implementation → EdgesAreSteps fabric implementation
      → IsEntryItem fabric implementation item → IsFirstBroken fabric packed fixed implementation 6 item
  rule_7 : {item : List ℕ} → ArePlaced fabric packed implementation → ConstraintsHold fixed implementation → EdgesAreSteps fabric implementation
      → WiresAreReached implementation → IsNetItem fabric packed implementation item → IsFirstBroken fabric packed fixed implementation 7 item
  rule_8 : {item : List ℕ} → ArePlaced fabric packed implementation → ConstraintsHold fixed implementation → EdgesAreSteps fabric implementation
      → WiresAreReached implementation → NetsBeginRight fabric packed implementation → IsSinkItem fabric packed implementation item
      → IsFirstBroken fabric packed fixed implementation 8 item
  rule_9 : {item : List ℕ} → ArePlaced fabric packed implementation → ConstraintsHold fixed implementation → EdgesAreSteps fabric implementation
      → WiresAreReached implementation → NetsBeginRight fabric packed implementation → SinksStand fabric packed implementation
      → IsSharedItem fabric implementation item → IsFirstBroken fabric packed fixed implementation 9 item

-- a refusal names the first broken rule and its first item
abbrev pub Explains : PlainFabric → PlainPacked → (fixed : List Pad) → PlainImplementation → CheckFault → Type 0
Explains fabric packed fixed implementation (faults.Broken broken) = IsFirstBroken fabric packed fixed implementation broken.rule broken.item
Explains fabric packed fixed implementation faults.Memory = Unit {0}

-- the fault with which a command ends that is given this
abbrev pub fault_of : CheckFault → Fault
fault_of (faults.Broken broken) = ends.Illegal broken.rule broken.item
fault_of faults.Memory = ends.Memory

-- what breaks a rule is not legal
abbrev pub BrokenIsNotLegal : Type 0
BrokenIsNotLegal =
    (fabric : PlainFabric) (packed : PlainPacked) (fixed : List Pad) (implementation : PlainImplementation) (rule : ℕ) (item : List ℕ) →
    IsWellMadePacked packed → IsFirstBroken fabric packed fixed implementation rule item → IsLegal fabric packed fixed implementation → ⊥
