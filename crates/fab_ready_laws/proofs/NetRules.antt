-- The edges and nets of an implementation are right, or there is a first item that is not.
use Rattle.std.proofs.Common.{◌≡◌, ◌≢◌, ◌<◌, ◌≤◌, ◌⊎◌, ◌++◌, ℕ, zero, suc, Bool, true, false, List, length, map, take, All, Contains, Option, Some, None, refl, sym, ap, ◌∙◌, subst, arith, inl, inr}
use Rattle.std.specs.Prelude.{codes, slice_get, if◌then◌else◌}
use Rattle.std.specs.Str.{bytes_eq}
use Rattle.std.proofs.lemmas.Bool.{cases_eq, cases_lt}
use Rattle.std.proofs.lemmas.List.Elements.{Contains-append_cases}
use Rattle.fab_kinds.specs.Pins.{lut_o, pad_o}
use Rattle.fab_model.specs.declared.tiles.WireRow.{WireRow}
use Rattle.fab_model.specs.Grid.{PlainFabric, tile_at}
use Rattle.fab_model.specs.Rows.{is_jump, is_named}
use Rattle.fab_model.specs.Tiles.{PlainTile}
use Rattle.fab_model.specs.Wires.{PlainWire, source_of, dest_of, pin_of}
use Rattle.fab_model.specs.Drive.{zero_bit, one_bit, constant}
use Rattle.fab_fabric.specs.Fabric.{AreTiles, wire_count}
use Rattle.fab_fabric.specs.Wires.{numbered_wire, IsIndexOf}
use Rattle.fab_fabric.specs.declared.wire.Site.{Site}
use Rattle.fab_fabric.specs.declared.wire.Wire.{Wire}
use Rattle.fab_fabric.proofs.Numbered.{one_wire, some_wire}
use Rattle.fab_netlist.specs.declared.net_id.NetId.{NetId}
use Rattle.fab_netlist.specs.Packed.{PlainPacked}
use Rattle.fab_netlist.specs.Plain.{IsAt}
use Rattle.fab_implementation.specs.Plain.{Edge, PlainTree, PlainImplementation}
use Rattle.fab_implementation.specs.OnFabric.{HasWires, IsOnFabric}
use Rattle.fab_legal.specs.Turns.{AreRight, IsFirstWrong}
use Rattle.fab_legal.specs.WellMade.{IsWellMadePacked}
use Rattle.fab_legal.specs.Lines.{CellsHaveSites, PortsHavePads}
use Rattle.fab_legal.specs.Steps.{IsStep, IsConstant, bit_drive, pin_wire}
use Rattle.fab_legal.specs.Nets.{Net, zero_net, one_net, port_net, cell_net, net_of, left_wires, entered_wires, StandsIn, IsRightStep, IsRightEntry, IsNet, IsSource, IsRoot, IsRightStart, IsRightName, IsRightNet}
use Rattle.fab_legal.specs.Sinks.{sinks, packed_net, named_sink}
use Rattle.fab_legal.specs.Legal.{EdgesAreSteps, WiresAreReached, NetsBeginRight, SinksStand, IsApart, NetsAreApart}
use Rattle.fab_legal.specs.Broken.{net_text, IsEdgeItem, IsStepItem, IsEntryItem, IsNetItem, name, start, StandsInItsNet, IsSinkItem, IsSharedItem}
use Rattle.fab_legal.proofs.Lists.{wrong_not_right}
use Rattle.fab_legal.proofs.Members.{from_mapped}
use Rattle.fab_legal.proofs.SinkLaw.{required_sink, sinks_within}
use Rattle.fab_ways_laws.specs.Laws.{EndsAreSteps}
use Rattle.fab_ways_laws.specs.Edges.{ends}
use Rattle.fab_ready_laws.proofs.Decisions.{IsDecided, both, by_test, bytes_decided, decided_as, denied, listed_decided, one_of, some_decided}
use Rattle.fab_ready_laws.proofs.Entered.{reached_decided, wire_eq}
use Rattle.fab_ready_laws.proofs.Turns.{HasWrong, right_or_wrong, right_or_first_wrong}
use Rattle.fab_ready_laws.proofs.WireTexts.{written_wire}

-- what holds of all items holds of one at a place
at_place : {X : Type 0} (P : X → Type 0) (xs : List X) (place : ℕ) (x : X) → All P xs → IsAt xs place x → P x
at_place P xs place x all at = subst P at.1 (all place x at.0)

-- ---- nets

pub net_eq : (a b : Net) → IsDecided (a ≡ b)
net_eq zero_net zero_net = inl refl
net_eq zero_net one_net = inr (λ same. cc)
net_eq zero_net (port_net port) = inr (λ same. cc)
net_eq zero_net (cell_net number) = inr (λ same. cc)
net_eq one_net zero_net = inr (λ same. cc)
net_eq one_net one_net = inl refl
net_eq one_net (port_net port) = inr (λ same. cc)
net_eq one_net (cell_net number) = inr (λ same. cc)
net_eq (port_net port) zero_net = inr (λ same. cc)
net_eq (port_net port) one_net = inr (λ same. cc)
net_eq (port_net port) (port_net other) = decided_as (ap port_net) port_is (bytes_decided port other)
  where
    port_is : port_net port ≡ port_net other → port ≡ other
    port_is same = cc
net_eq (port_net port) (cell_net number) = inr (λ same. cc)
net_eq (cell_net number) zero_net = inr (λ same. cc)
net_eq (cell_net number) one_net = inr (λ same. cc)
net_eq (cell_net number) (port_net port) = inr (λ same. cc)
net_eq (cell_net number) (cell_net other) = decided_as (ap cell_net) number_is (cases_eq number other)
  where
    number_is : cell_net number ≡ cell_net other → number ≡ other
    number_is same = cc

module _ (fabric : PlainFabric) (packed : PlainPacked) (i : PlainImplementation) (on : IsOnFabric fabric i) where
  tree_wires : (place : ℕ) (tree : PlainTree) → IsAt i.trees place tree → All (HasWires fabric) tree.edges
  tree_wires place tree at = at_place (λ tree. All (HasWires fabric) tree.edges) i.trees place tree on.wires at

  -- ---- trees whose edges are judged one after the other

  module _ (IsRightEdge : PlainTree → List Edge → Edge → Type 0) (decided : (tree : PlainTree) (before : List Edge) (edge : Edge) → HasWires fabric edge → IsDecided (IsRightEdge tree before edge)) where
    abbrev HasRightEdges : List PlainTree → PlainTree → Type 0
    HasRightEdges before tree = AreRight (IsRightEdge tree) tree.edges

    abbrev HasWrongEdge : List PlainTree → PlainTree → Type 0
    HasWrongEdge before tree = (edge : Edge) × IsFirstWrong (IsRightEdge tree) tree.edges edge

    tree_judged : (place : ℕ) (tree : PlainTree) → IsAt i.trees place tree → HasRightEdges (take place i.trees) tree ⊎ HasWrongEdge (take place i.trees) tree
    tree_judged place tree at =
        right_or_first_wrong (IsRightEdge tree) tree.edges
        (λ number edge there. decided tree (take number tree.edges) edge (at_place (HasWires fabric) tree.edges number edge (tree_wires place tree at) there))

    edge_item : HasWrong HasRightEdges HasWrongEdge i.trees → (item : List ℕ) × IsEdgeItem fabric HasRightEdges IsRightEdge i.trees item
    edge_item has =
        let edge = has.wrong.0 in
        let first = has.wrong.1 in
        let within = at_place (HasWires fabric) has.item.edges first.place edge (tree_wires has.place has.item has.is_at) first.is_at in
        let text = written_wire fabric edge.1 within.1 in (
          text.0,
          record {
            tree = has.item;
            edge = edge;
            first_tree = record { place = has.place; is_at = has.is_at; wrong = wrong_not_right (IsRightEdge has.item) has.item.edges edge first; before = has.before };
            first_edge = first;
            text = text.1;
          },
        )

    edges_judged : AreRight HasRightEdges i.trees ⊎ ((item : List ℕ) × IsEdgeItem fabric HasRightEdges IsRightEdge i.trees item)
    edges_judged = elim (right_or_wrong HasRightEdges HasWrongEdge i.trees tree_judged) [
      | inl right ↦ inl right
      | inr has ↦ inr (edge_item has)
    ]

  -- ---- steps and entries

  step_decided : EndsAreSteps → AreTiles fabric → (edge : Edge) → HasWires fabric edge → IsDecided (IsStep fabric edge.0 edge.1)
  step_decided steps tiles edge within =
      let is = steps fabric edge.0.0 edge.1 tiles within.0 in
      decided_as is.0 is.1 (listed_decided wire_eq (ends fabric edge.0.0) edge.1)

  pub steps_judged : EndsAreSteps → AreTiles fabric → EdgesAreSteps fabric i ⊎ ((item : List ℕ) × IsStepItem fabric i item)
  steps_judged steps tiles = edges_judged (λ tree. IsRightStep fabric) (λ tree before edge within. step_decided steps tiles edge within)

  entry_decided : (edges before : List Edge) (edge : Edge) → IsDecided (IsRightEntry edges before edge)
  entry_decided edges before edge =
      decided_as (λ is. record { once = is.0; reached = is.1 }) (λ right. (right.once, right.reached))
      (both (denied (listed_decided wire_eq (entered_wires before) edge.1)) (reached_decided edges edge.1))

  pub entries_judged : WiresAreReached i ⊎ ((item : List ℕ) × IsEntryItem fabric i item)
  entries_judged = edges_judged (λ tree. IsRightEntry tree.edges) (λ tree before edge within. entry_decided tree.edges before edge)

  -- ---- where nets begin

  source_decided : {X : Type 0} → ((a b : X) → IsDecided (a ≡ b)) → (lines : List (X × Site)) (pin : ℕ) (thing : X) (wire : Wire) → IsDecided (IsSource fabric lines pin thing wire)
  source_decided {X} same lines pin thing wire =
      decided_as to back (some_decided (λ (line : X × Site). (line.0 ≡ thing) × (wire ≡ pin_wire fabric line.1 pin)) (λ line. both (same line.0 thing) (wire_eq wire (pin_wire fabric line.1 pin))) lines)
    where
      to : ((line : X × Site) × Contains lines line × ((line.0 ≡ thing) × (wire ≡ pin_wire fabric line.1 pin))) → IsSource fabric lines pin thing wire
      to found = record { site = found.0.1; listed = subst (λ (x : X). Contains lines (x, found.0.1)) found.2.0 found.1; wire_is = found.2.1 }

      back : IsSource fabric lines pin thing wire → (line : X × Site) × Contains lines line × ((line.0 ≡ thing) × (wire ≡ pin_wire fabric line.1 pin))
      back is = ((thing, is.site), is.listed, (refl, is.wire_is))

  -- a constant is 0 or 1
  constant_is : (dest : Option (List ℕ)) (value : Bool) → IsDecided (constant dest ≡ bit_drive value)
  constant_is None true = inr (λ same. cc)
  constant_is None false = inl refl
  constant_is (Some found) value = by_name (bytes_eq found (codes "VCC")) value
    where
      by_name : (b value : Bool) → IsDecided ((if b then one_bit else zero_bit) ≡ bit_drive value)
      by_name true true = inl refl
      by_name true false = inr (λ same. cc)
      by_name false true = inr (λ same. cc)
      by_name false false = inl refl

  -- of a destination bit its row tells
  dest_decided : (value : Bool) (wire : Wire) (x y row bit : ℕ) → IsIndexOf fabric wire.0 x y (dest_of row bit) → IsDecided (IsConstant fabric (bit_drive value) wire)
  dest_decided value wire x y row bit is = by_row (slice_get is.is_wire.tile.rows row) refl
    where
      -- the row that a constant tells is this one
      row_is : (c : IsConstant fabric (bit_drive value) wire) → slice_get is.is_wire.tile.rows row ≡ Some c.found
      row_is c =
          let same = one_wire fabric wire.0 x y c.x c.y (dest_of row bit) (dest_of c.row c.bit) is c.wire_is in
          let tile : is.is_wire.tile ≡ c.tile = some_is (sym is.is_wire.tile_is ∙ (λ j. tile_at fabric (same.0 j) (same.1 j)) ∙ c.stands.tile_is) in
          (λ j. slice_get (tile j).rows (row_same same.2 j)) ∙ c.stands.row_is
        where
          some_is : {a b : PlainTile} → Some a ≡ Some b → a ≡ b
          some_is same = cc

          row_same : dest_of row bit ≡ dest_of c.row c.bit → row ≡ c.row
          row_same same = cc

      row_once : {a b : WireRow} → Some a ≡ Some b → a ≡ b
      row_once same = cc

      by_row : (found : Option WireRow) → slice_get is.is_wire.tile.rows row ≡ found → IsDecided (IsConstant fabric (bit_drive value) wire)
      by_row None none = inr (λ c. let both_are = sym none ∙ row_is c in absurd cc)
      by_row (Some found) there = decided_as to back (both (by_test (is_jump found.dir) (λ e. e, λ e. e)) (both (unnamed (is_named found.source)) (constant_is found.dest value)))
        where
          to : (is_jump found.dir ≡ true) × ((is_named found.source ≡ false) × (constant found.dest ≡ bit_drive value)) → IsConstant fabric (bit_drive value) wire
          to so = record {
            x = x;
            y = y;
            row = row;
            bit = bit;
            tile = is.is_wire.tile;
            found = found;
            stands = record { tile_is = is.is_wire.tile_is; row_is = there };
            jumps = so.0;
            unsourced = so.1.0;
            wire_is = is;
            value_is = so.1.1;
          }

          back : IsConstant fabric (bit_drive value) wire → (is_jump found.dir ≡ true) × ((is_named found.source ≡ false) × (constant found.dest ≡ bit_drive value))
          back c =
              let same : c.found ≡ found = row_once (sym (row_is c) ∙ there) in
              subst (λ (r : WireRow). (is_jump r.dir ≡ true) × ((is_named r.source ≡ false) × (constant r.dest ≡ bit_drive value))) same (c.jumps, (c.unsourced, c.value_is))

          unnamed : (b : Bool) → IsDecided (b ≡ false)
          unnamed true = inr (λ same. cc)
          unnamed false = inl refl

  constant_decided : (value : Bool) (wire : Wire) → wire.0 < wire_count fabric → IsDecided (IsConstant fabric (bit_drive value) wire)
  constant_decided value wire within = let found = some_wire fabric wire.0 within in by_wire found.0 found.1 found.2 found.3
    where
      by_wire : (x y : ℕ) (plain : PlainWire) → IsIndexOf fabric wire.0 x y plain → IsDecided (IsConstant fabric (bit_drive value) wire)
      by_wire x y (dest_of row bit) is = dest_decided value wire x y row bit is
      by_wire x y (source_of row bit) is = inr (λ c. let same = one_wire fabric wire.0 x y c.x c.y (source_of row bit) (dest_of c.row c.bit) is c.wire_is in let differ = same.2 in absurd cc)
      by_wire x y (pin_of bel pin) is = inr (λ c. let same = one_wire fabric wire.0 x y c.x c.y (pin_of bel pin) (dest_of c.row c.bit) is c.wire_is in let differ = same.2 in absurd cc)

  root_decided : (net : Net) (wire : Wire) → wire.0 < wire_count fabric → IsDecided (IsRoot fabric i net wire)
  root_decided zero_net wire within = constant_decided false wire within
  root_decided one_net wire within = constant_decided true wire within
  root_decided (port_net port) wire within = source_decided bytes_decided i.ins pad_o port wire
  root_decided (cell_net number) wire within = source_decided cases_eq i.cells lut_o number wire

  start_decided : (tree : PlainTree) (before : List Edge) (edge : Edge) → HasWires fabric edge → IsDecided (IsRightStart fabric i tree before edge)
  start_decided tree before edge within = one_of (listed_decided wire_eq (entered_wires tree.edges) edge.0) (root_decided (net_of i tree.net) edge.0 within.0)

  net_decided : (net : Net) → IsDecided (IsNet packed net)
  net_decided zero_net = inl tt
  net_decided one_net = inl tt
  net_decided (port_net port) = listed_decided bytes_decided packed.inputs port
  net_decided (cell_net number) = elim (cases_lt number (length packed.cells)) [ inl below ↦ inl below | inr past ↦ inr (λ below. absurd (omega (arith, below, past))) ]

  name_decided : (before : List PlainTree) (tree : PlainTree) → IsDecided (IsRightName packed i before tree)
  name_decided before tree =
      decided_as (λ is. record { exists = is.0; first = is.1 }) (λ right. (right.exists, right.first))
      (both (net_decided (net_of i tree.net)) (denied (listed_decided net_eq (map (λ (other : PlainTree). net_of i other.net) before) (net_of i tree.net))))

  -- a net has a wrong name, or a right one and a first edge that may not begin where it does
  abbrev IsWrongNet : List PlainTree → PlainTree → Type 0
  IsWrongNet before tree =
      (IsRightName packed i before tree → ⊥) ⊎ (IsRightName packed i before tree × ((edge : Edge) × IsFirstWrong (IsRightStart fabric i tree) tree.edges edge))

  one_net_judged : (place : ℕ) (tree : PlainTree) → IsAt i.trees place tree → IsRightNet fabric packed i (take place i.trees) tree ⊎ IsWrongNet (take place i.trees) tree
  one_net_judged place tree at = elim (name_decided (take place i.trees) tree) [
    | inr never ↦ inr (inl never)
    | inl right ↦
        elim (right_or_first_wrong (IsRightStart fabric i tree) tree.edges
        (λ number edge there. start_decided tree (take number tree.edges) edge (at_place (HasWires fabric) tree.edges number edge (tree_wires place tree at) there))) [
          | inl starts ↦ inl (record { name = right; starts = starts })
          | inr first ↦ inr (inr (right, first))
        ]
  ]

  net_item : HasWrong (IsRightNet fabric packed i) IsWrongNet i.trees → (item : List ℕ) × IsNetItem fabric packed i item
  net_item has = elim has.wrong [
    | inl never ↦ (net_text (net_of i has.item.net), name has.is_at has.before never)
    | inr found ↦ (
        let edge = found.1.0 in
        let first = found.1.1 in
        let within = at_place (HasWires fabric) has.item.edges first.place edge (tree_wires has.place has.item has.is_at) first.is_at in
        let text = written_wire fabric edge.0 within.0 in
        (text.0, start has.is_at has.before found.0 first text.1))
  ]

  pub nets_judged : NetsBeginRight fabric packed i ⊎ ((item : List ℕ) × IsNetItem fabric packed i item)
  nets_judged = elim (right_or_wrong (IsRightNet fabric packed i) IsWrongNet i.trees one_net_judged) [
    | inl right ↦ inl right
    | inr has ↦ inr (net_item has)
  ]

  -- ---- sinks

  stands_decided : (net : Net) (wire : Wire) → IsDecided (StandsIn i net wire)
  stands_decided net wire =
      decided_as to back (some_decided (λ (tree : PlainTree). (net_of i tree.net ≡ net) × Contains (left_wires tree.edges ++ entered_wires tree.edges) wire)
      (λ tree. both (net_eq (net_of i tree.net) net) (listed_decided wire_eq (left_wires tree.edges ++ entered_wires tree.edges) wire)) i.trees)
    where
      to : ((tree : PlainTree) × Contains i.trees tree × ((net_of i tree.net ≡ net) × Contains (left_wires tree.edges ++ entered_wires tree.edges) wire)) → StandsIn i net wire
      to found = record { tree = found.0; listed = found.1; net_is = found.2.0; has_wire = found.2.1 }

      back : StandsIn i net wire → (tree : PlainTree) × Contains i.trees tree × ((net_of i tree.net ≡ net) × Contains (left_wires tree.edges ++ entered_wires tree.edges) wire)
      back is = (is.tree, is.listed, (is.net_is, is.has_wire))

  module _ (made : IsWellMadePacked packed) (cells : CellsHaveSites fabric packed i) (ports : PortsHavePads fabric packed i) where
    all_stand : AreRight (StandsInItsNet packed i) (sinks fabric packed i) → SinksStand fabric packed i
    all_stand right net wire required =
        let named = from_mapped (named_sink packed) (sinks fabric packed i) (net, wire) (required_sink fabric packed i cells ports net wire required) in
        subst (λ (s : Net × Wire). StandsIn i s.0 s.1) named.2 (right named.1.0 named.0 named.1.1 (named.1.1, named.1.2))

    pub sinks_judged : SinksStand fabric packed i ⊎ ((item : List ℕ) × IsSinkItem fabric packed i item)
    sinks_judged = elim (right_or_first_wrong (StandsInItsNet packed i) (sinks fabric packed i) (λ place sink at. stands_decided (packed_net packed sink.0) sink.1)) [
      | inl right ↦ inl (all_stand right)
      | inr first ↦ (
          let within = at_place (λ (sink : NetId × Wire). sink.1.0 < wire_count fabric) (sinks fabric packed i) first.1.place first.0
          (sinks_within fabric packed i made cells ports) first.1.is_at in
          let text = written_wire fabric first.0.1 within in
          inr (text.0, record { sink = first.0; first = first.1; text = text.1 }))
    ]

  -- ---- wires that two nets share

  abbrev HasWire : Wire → PlainTree → Type 0
  HasWire wire tree = Contains (left_wires tree.edges ++ entered_wires tree.edges) wire

  has_decided : (wire : Wire) (tree : PlainTree) → IsDecided (HasWire wire tree)
  has_decided wire tree = listed_decided wire_eq (left_wires tree.edges ++ entered_wires tree.edges) wire

  -- two trees of different nets have the wire
  record IsShared (wire : Wire) : Type 0 where
    pub first : PlainTree
    pub second : PlainTree
    pub one : Contains i.trees first
    pub other : Contains i.trees second
    pub in_one : HasWire wire first
    pub in_other : HasWire wire second
    pub two : net_of i first.net ≢ net_of i second.net

  wire_judged : (wire : Wire) → IsApart i wire ⊎ IsShared wire
  wire_judged wire = elim (some_decided (HasWire wire) (has_decided wire) i.trees) [
    | inr none ↦ inl (λ first second in_first in_second. absurd (none (in_first.tree, in_first.listed, in_first.has_wire)))
    | inl found ↦ beside found.0 found.1 found.2
  ]
    where
      beside : (tree : PlainTree) → Contains i.trees tree → HasWire wire tree → IsApart i wire ⊎ IsShared wire
      beside tree there has = elim (some_decided (λ (other : PlainTree). HasWire wire other × (net_of i tree.net ≢ net_of i other.net))
          (λ other. both (has_decided wire other) (denied (net_eq (net_of i tree.net) (net_of i other.net)))) i.trees) [
            | inl found ↦ inr (record { first = tree; second = found.0; one = there; other = found.1; in_one = has; in_other = found.2.0; two = found.2.1 })
            | inr none ↦ inl (λ first second in_first in_second. sym (same none first in_first) ∙ same none second in_second)
          ]
        where
          same : ((other : PlainTree) × Contains i.trees other × (HasWire wire other × (net_of i tree.net ≢ net_of i other.net)) → ⊥) → (net : Net) → StandsIn i net wire → net_of i tree.net ≡ net
          same none net stands = elim (net_eq (net_of i tree.net) (net_of i stands.tree.net)) [
            | inl is ↦ is ∙ stands.net_is
            | inr differ ↦ absurd (none (stands.tree, stands.listed, (stands.has_wire, differ)))
          ]

  abbrev AreApartTo : ℕ → Type 0
  AreApartTo n = (wire : Wire) → wire.0 < n → IsApart i wire

  shared_item : (n : ℕ) → n < wire_count fabric → AreApartTo n → IsShared (numbered_wire n) → (item : List ℕ) × IsSharedItem fabric i item
  shared_item n within apart shared =
      let text = written_wire fabric (numbered_wire n) within in (
        text.0,
        record {
          wire = numbered_wire n;
          one_net = net_of i shared.first.net;
          other_net = net_of i shared.second.net;
          in_one = record { tree = shared.first; listed = shared.one; net_is = refl; has_wire = shared.in_one };
          in_other = record { tree = shared.second; listed = shared.other; net_is = refl; has_wire = shared.in_other };
          two = shared.two;
          least = λ other less. apart other less;
          text = text.1;
        },
      )

  one_more_wire : (n : ℕ) → AreApartTo n → IsApart i (numbered_wire n) → AreApartTo (suc n)
  one_more_wire n apart next wire below = elim (cases_lt wire.0 n) [
    | inl less ↦ apart wire less
    | inr past ↦ (let same : n ≡ wire.0 = omega (arith, below, past) in subst (λ (k : ℕ). IsApart i (numbered_wire k)) same next)
  ]

  wires_to : (n : ℕ) → n ≤ wire_count fabric → AreApartTo n ⊎ ((item : List ℕ) × IsSharedItem fabric i item)
  wires_to zero few = inl none
    where
      none : AreApartTo zero
      none wire below = absurd (omega (arith, below))
  wires_to (suc n) few = elim (wires_to n (omega (arith, few))) [
    | inr found ↦ inr found
    | inl apart ↦
        elim (wire_judged (numbered_wire n)) [
          | inl next ↦ inl (one_more_wire n apart next)
          | inr shared ↦ inr (shared_item n (omega (arith, few)) apart shared)
        ]
  ]

  -- a wire that stands in a net is one of the fabric
  standing_within : (net : Net) (wire : Wire) → StandsIn i net wire → wire.0 < wire_count fabric
  standing_within net wire stands =
      let wires = at_place (λ tree. All (HasWires fabric) tree.edges) i.trees stands.listed.0 stands.tree on.wires (stands.listed.1, stands.listed.2) in
      elim (Contains-append_cases (left_wires stands.tree.edges) (entered_wires stands.tree.edges) wire stands.has_wire) [
        | inl left ↦ (
            let edge = from_mapped (λ (edge : Edge). edge.0) stands.tree.edges wire left in
            let within = at_place (HasWires fabric) stands.tree.edges edge.1.0 edge.0 wires (edge.1.1, edge.1.2) in
            subst (λ (w : Wire). w.0 < wire_count fabric) edge.2 within.0)
        | inr entered ↦ (
            let edge = from_mapped (λ (edge : Edge). edge.1) stands.tree.edges wire entered in
            let within = at_place (HasWires fabric) stands.tree.edges edge.1.0 edge.0 wires (edge.1.1, edge.1.2) in
            subst (λ (w : Wire). w.0 < wire_count fabric) edge.2 within.1)
      ]

  pub shared_judged : NetsAreApart i ⊎ ((item : List ℕ) × IsSharedItem fabric i item)
  shared_judged = elim (wires_to (wire_count fabric) (omega arith)) [
    | inr found ↦ inr found
    | inl apart ↦ inl (all_apart apart)
  ]
    where
      all_apart : AreApartTo (wire_count fabric) → NetsAreApart i
      all_apart apart wire first second in_first in_second = apart wire (standing_within first wire in_first) first second in_first in_second
