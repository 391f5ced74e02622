-- Each rule is broken by one item first, and by none where it holds.
use Rattle.std.proofs.Common.{◌≡◌, ℕ, List, take, sym, ap, subst, inl, inr}
use Rattle.std.proofs.lemmas.Bool.{cases_order}
use Rattle.fab_kinds.specs.declared.kind.Kind.TheVariants as kinds
use Rattle.fab_model.specs.Grid.{PlainFabric}
use Rattle.fab_fabric.specs.declared.wire.Site.{Site}
use Rattle.fab_fabric.specs.declared.wire.Wire.{Wire}
use Rattle.fab_netlist.specs.declared.net_id.NetId.{NetId}
use Rattle.fab_netlist.specs.Packed.{PlainPacked}
use Rattle.fab_netlist.specs.Plain.{IsAt}
use Rattle.fab_implementation.specs.Plain.{Edge, Pad, PlainTree, PlainImplementation}
use Rattle.fab_legal.specs.Turns.{FirstAreRight, IsFirstWrong}
use Rattle.fab_legal.specs.WellMade.{output_ports}
use Rattle.fab_legal.specs.Lines.{IsRightLine, IsCell, IsInput, IsOutput, sites, IsNew, StandsOn, CellsHaveSites, SitesDiffer, PortsHavePads, ConstraintsHold}
use Rattle.fab_legal.specs.Nets.{net_of, IsRightStart, IsRightName, IsRightNet}
use Rattle.fab_legal.specs.Sinks.{sinks}
use Rattle.fab_legal.specs.Legal.{ArePlaced, NetsBeginRight, SinksStand}
use Rattle.fab_fabric.specs.Names.{site_text}
use Rattle.fab_legal.specs.Broken.{cell_text, net_text, IsWireText, IsFirstUnnamedCell, IsCellItem, wrong_line, unnamed, IsSiteItem, again, IsNamedBy, IsPortItem, wrong_in, wrong_out, unnamed_in, unnamed_out, IsConstraintItem, elsewhere, IsEdgeItem, IsNetItem, name, start, StandsInItsNet, IsSinkItem, IsSharedItem}
use Rattle.fab_legal.proofs.Lists.{wrong_not_right}
use Rattle.fab_legal.proofs.SinkLaw.{sink_required}
use Rattle.fab_refusals_laws.proofs.BrokenFirsts.{one_first, one_text}

module _ (fabric : PlainFabric) (packed : PlainPacked) (i : PlainImplementation) where
  -- ---- cells

  abbrev IsRightCell : List (ℕ × Site) → ℕ × Site → Type 0
  IsRightCell = IsRightLine fabric kinds.Lut4c (IsCell packed)

  one_unnamed : (a b : ℕ) → IsFirstUnnamedCell packed i a → IsFirstUnnamedCell packed i b → a ≡ b
  one_unnamed a b first second = elim (cases_order a b) [
    | inl same ↦ same
    | inr (inl less) ↦ absurd (first.unnamed (second.before a less))
    | inr (inr more) ↦ absurd (second.unnamed (first.before b more))
  ]

  pub one_cell : (item text : List ℕ) → IsCellItem fabric packed i item → IsCellItem fabric packed i text → item ≡ text
  one_cell item text (wrong_line {line} first) (wrong_line {line = other} second) = ap (λ (l : ℕ × Site). cell_text l.0) (one_first IsRightCell i.cells line other first second).item
  one_cell item text (wrong_line {line} first) (unnamed {number} right second) = absurd (wrong_not_right IsRightCell i.cells line first right)
  one_cell item text (unnamed {number} right first) (wrong_line {line} second) = absurd (wrong_not_right IsRightCell i.cells line second right)
  one_cell item text (unnamed {number} right first) (unnamed {number = other} also second) = ap cell_text (one_unnamed number other first second)

  pub no_cell : (item : List ℕ) → IsCellItem fabric packed i item → CellsHaveSites fabric packed i → ⊥
  no_cell item (wrong_line {line} first) cells = wrong_not_right IsRightCell i.cells line first cells.lines_right
  no_cell item (unnamed {number} right first) cells = first.unnamed (cells.all_named number first.is_cell)

  -- ---- sites

  pub one_site : (item text : List ℕ) → IsSiteItem i item → IsSiteItem i text → item ≡ text
  one_site item text (again {site} first) (again {site = other} second) = ap site_text (one_first IsNew (sites i) site other first second).item

  pub no_site : (item : List ℕ) → IsSiteItem i item → SitesDiffer i → ⊥
  no_site item (again {site} first) differ = wrong_not_right IsNew (sites i) site first differ

  -- ---- ports

  abbrev IsRightIn : List Pad → Pad → Type 0
  IsRightIn = IsRightLine fabric kinds.Io (IsInput packed)

  abbrev IsRightOut : List Pad → Pad → Type 0
  IsRightOut = IsRightLine fabric kinds.Io (IsOutput packed)

  pub one_port : (item text : List ℕ) → IsPortItem fabric packed i item → IsPortItem fabric packed i text → item ≡ text
  one_port item text (wrong_in {line} first) (wrong_in {line = other} second) = ap (λ (l : Pad). l.0) (one_first IsRightIn i.ins line other first second).item
  one_port item text (wrong_in {line} first) (wrong_out ins second) = absurd (wrong_not_right IsRightIn i.ins line first ins)
  one_port item text (wrong_in {line} first) (unnamed_in ins outs second) = absurd (wrong_not_right IsRightIn i.ins line first ins)
  one_port item text (wrong_in {line} first) (unnamed_out ins outs all second) = absurd (wrong_not_right IsRightIn i.ins line first ins)
  one_port item text (wrong_out ins first) (wrong_in {line} second) = absurd (wrong_not_right IsRightIn i.ins line second ins)
  one_port item text (wrong_out {line} ins first) (wrong_out {line = other} also second) = ap (λ (l : Pad). l.0) (one_first IsRightOut i.outs line other first second).item
  one_port item text (wrong_out {line} ins first) (unnamed_in also outs second) = absurd (wrong_not_right IsRightOut i.outs line first outs)
  one_port item text (wrong_out {line} ins first) (unnamed_out also outs all second) = absurd (wrong_not_right IsRightOut i.outs line first outs)
  one_port item text (unnamed_in ins outs first) (wrong_in {line} second) = absurd (wrong_not_right IsRightIn i.ins line second ins)
  one_port item text (unnamed_in ins outs first) (wrong_out {line} also second) = absurd (wrong_not_right IsRightOut i.outs line second outs)
  one_port item text (unnamed_in {port} ins outs first) (unnamed_in {port = other} also those second) = (one_first (IsNamedBy i.ins) packed.inputs port other first second).item
  one_port item text (unnamed_in {port} ins outs first) (unnamed_out also those all second) = absurd (wrong_not_right (IsNamedBy i.ins) packed.inputs port first all)
  one_port item text (unnamed_out ins outs all first) (wrong_in {line} second) = absurd (wrong_not_right IsRightIn i.ins line second ins)
  one_port item text (unnamed_out ins outs all first) (wrong_out {line} also second) = absurd (wrong_not_right IsRightOut i.outs line second outs)
  one_port item text (unnamed_out ins outs all first) (unnamed_in {port} also those second) = absurd (wrong_not_right (IsNamedBy i.ins) packed.inputs port second all)
  one_port item text (unnamed_out {port} ins outs all first) (unnamed_out {port = other} also those more second) =
      (one_first (IsNamedBy i.outs) (output_ports packed) port other first second).item

  pub no_port : (item : List ℕ) → IsPortItem fabric packed i item → PortsHavePads fabric packed i → ⊥
  no_port item (wrong_in {line} first) ports = wrong_not_right IsRightIn i.ins line first ports.ins.lines_right
  no_port item (wrong_out {line} right first) ports = wrong_not_right IsRightOut i.outs line first ports.outs.lines_right
  no_port item (unnamed_in {port} ins outs first) ports = first.wrong (ports.ins.all_named port (first.place, first.is_at.0, first.is_at.1))
  no_port item (unnamed_out {port} ins outs all first) ports = first.wrong (ports.outs.all_named port (first.place, first.is_at.0, first.is_at.1))

  -- ---- constraints

  pub one_constraint : (fixed : List Pad) (item text : List ℕ) → IsConstraintItem fixed i item → IsConstraintItem fixed i text → item ≡ text
  one_constraint fixed item text (elsewhere {pad} first) (elsewhere {pad = other} second) = ap (λ (p : Pad). p.0) (one_first (StandsOn i) fixed pad other first second).item

  pub no_constraint : (fixed : List Pad) (item : List ℕ) → IsConstraintItem fixed i item → ConstraintsHold fixed i → ⊥
  no_constraint fixed item (elsewhere {pad} first) hold = wrong_not_right (StandsOn i) fixed pad first hold

  -- ---- edges

  pub one_edge : (IsRightTree : List PlainTree → PlainTree → Type 0) (IsRightEdge : PlainTree → List Edge → Edge → Type 0) (item text : List ℕ)
      → IsEdgeItem fabric IsRightTree IsRightEdge i.trees item → IsEdgeItem fabric IsRightTree IsRightEdge i.trees text → item ≡ text
  one_edge IsRightTree IsRightEdge item text first second =
      let tree = (one_first IsRightTree i.trees first.tree second.tree first.first_tree second.first_tree).item in
      let moved = subst (λ (t : PlainTree). IsFirstWrong (IsRightEdge t) t.edges first.edge) tree first.first_edge in
      let edge = (one_first (IsRightEdge second.tree) second.tree.edges first.edge second.edge moved second.first_edge).item in
      one_text fabric second.edge.1 item text (subst (λ (e : Edge). IsWireText fabric e.1 item) edge first.text) second.text

  -- ---- nets

  abbrev IsRightTree : List PlainTree → PlainTree → Type 0
  IsRightTree = IsRightNet fabric packed i

  wrong_name : (place : ℕ) (tree : PlainTree) → IsAt i.trees place tree → FirstAreRight IsRightTree i.trees place → (IsRightName packed i (take place i.trees) tree → ⊥)
      → IsFirstWrong IsRightTree i.trees tree
  wrong_name place tree at before wrong = record { place = place; is_at = at; wrong = λ right. wrong right.name; before = before }

  wrong_start : (place : ℕ) (tree : PlainTree) (edge : Edge) → IsAt i.trees place tree → FirstAreRight IsRightTree i.trees place → IsFirstWrong (IsRightStart fabric i tree) tree.edges edge
      → IsFirstWrong IsRightTree i.trees tree
  wrong_start place tree edge at before first = record {
    place = place;
    is_at = at;
    wrong = λ right. wrong_not_right (IsRightStart fabric i tree) tree.edges edge first right.starts;
    before = before;
  }

  -- a name that is right, and is not
  name_or_start : (place other : ℕ) (tree more : PlainTree) → place ≡ other → tree ≡ more → (IsRightName packed i (take place i.trees) tree → ⊥) → IsRightName packed i (take other i.trees) more → ⊥
  name_or_start place other tree more same alike wrong right =
      wrong (subst (λ (n : ℕ). IsRightName packed i (take n i.trees) tree) (sym same) (subst (λ (t : PlainTree). IsRightName packed i (take other i.trees) t) (sym alike) right))

  pub one_net : (item text : List ℕ) → IsNetItem fabric packed i item → IsNetItem fabric packed i text → item ≡ text
  unfolding wrong_name wrong_start
  one_net item text (name {place} {tree} at before wrong) (name {place = other} {tree = more} there earlier bad) =
      ap (λ (t : PlainTree). net_text (net_of i t.net))
      (one_first IsRightTree i.trees tree more (wrong_name place tree at before wrong) (wrong_name other more there earlier bad)).item
  one_net item text (name {place} {tree} at before wrong) (start {place = other} {tree = more} {edge} there earlier right first is) =
      let same = one_first IsRightTree i.trees tree more (wrong_name place tree at before wrong) (wrong_start other more edge there earlier first) in
      absurd (name_or_start place other tree more same.place same.item wrong right)
  one_net item text (start {place} {tree} {edge} at before right first is) (name {place = other} {tree = more} there earlier bad) =
      let same = one_first IsRightTree i.trees more tree (wrong_name other more there earlier bad) (wrong_start place tree edge at before first) in
      absurd (name_or_start other place more tree same.place same.item bad right)
  one_net item text (start {place} {tree} {edge} at before right first is) (start {place = other} {tree = more} {edge = last} there earlier also second same_is) =
      let tree_is = (one_first IsRightTree i.trees tree more (wrong_start place tree edge at before first) (wrong_start other more last there earlier second)).item in
      let moved = subst (λ (t : PlainTree). IsFirstWrong (IsRightStart fabric i t) t.edges edge) tree_is first in
      let edge_is = (one_first (IsRightStart fabric i more) more.edges edge last moved second).item in
      one_text fabric last.0 item text (subst (λ (e : Edge). IsWireText fabric e.0 item) edge_is is) same_is

  pub no_net : (item : List ℕ) → IsNetItem fabric packed i item → NetsBeginRight fabric packed i → ⊥
  no_net item (name {place} {tree} at before wrong) right = wrong (right place tree at.0 at).name
  no_net item (start {place} {tree} {edge} at before right_name first is) right = wrong_not_right (IsRightStart fabric i tree) tree.edges edge first (right place tree at.0 at).starts

  -- ---- sinks and shared wires

  pub one_sink : (item text : List ℕ) → IsSinkItem fabric packed i item → IsSinkItem fabric packed i text → item ≡ text
  one_sink item text first second =
      let sink = (one_first (StandsInItsNet packed i) (sinks fabric packed i) first.sink second.sink first.first second.first).item in
      one_text fabric second.sink.1 item text (subst (λ (s : NetId × Wire). IsWireText fabric s.1 item) sink first.text) second.text

  pub no_sink : (item : List ℕ) → ArePlaced fabric packed i → IsSinkItem fabric packed i item → SinksStand fabric packed i → ⊥
  no_sink item placed breaks stand =
      breaks.first.wrong (stand _ _ (sink_required fabric packed i placed.cells placed.ports breaks.sink (breaks.first.place, breaks.first.is_at.0, breaks.first.is_at.1)))

  same_wire : (first second : Wire) → first.0 ≡ second.0 → first ≡ second
  same_wire first second same = ap (λ (n : ℕ). let w : Wire = record { 0 = n } in w) same

  pub one_shared : (item text : List ℕ) → IsSharedItem fabric i item → IsSharedItem fabric i text → item ≡ text
  one_shared item text first second = elim (cases_order first.wire.0 second.wire.0) [
    | inl same ↦ one_text fabric second.wire item text (subst (λ (w : Wire). IsWireText fabric w item) (same_wire first.wire second.wire same) first.text) second.text
    | inr (inl less) ↦ absurd (first.two (second.least first.wire less first.one_net first.other_net first.in_one first.in_other))
    | inr (inr more) ↦ absurd (second.two (first.least second.wire more second.one_net second.other_net second.in_one second.in_other))
  ]
