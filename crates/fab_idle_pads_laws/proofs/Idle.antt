-- A wire that leads nowhere is entered by an edge of a mapping only where it is a required sink, and T of a pad without a port is none.
use Rattle.std.proofs.Common.{◌≡◌, ◌<◌, ℕ, true, false, not, List, [], ◌∷◌, ◌++◌, length, filter, slice_get, Contains, Option, Some, None, refl, sym, ap, ◌∙◌, subst, inl, inr, arith, nat_lt}
use Rattle.std.specs.Option.{option_map, option_map_or, option_and_then}
use Rattle.std.proofs.lemmas.Bool.{false≢true}
use Rattle.std.proofs.lemmas.List.Elements.{All-contains}
use Rattle.std.proofs.lemmas.Option.{slice_get-map}
use Rattle.fab_kinds.specs.declared.kind.Kind.TheVariants as kinds
use Rattle.fab_kinds.specs.Pins.{lut_sr, lut_en, pad_i, pad_t, pin_names, input_count}
use Rattle.fab_legal.specs.fab_model.specs.declared.tiles.Bel.{Bel}
use Rattle.fab_legal.specs.fab_model.specs.Tiles.{PlainTile, IsTile, IsPair, TileWire, bel_pin, tile_wires, is_matrix_output, wire_passes}
use Rattle.fab_legal.specs.fab_model.specs.Wires.{PlainWire, pin_of, plain_wires, wire_of}
use Rattle.fab_legal.specs.fab_model.specs.Grid.{PlainFabric, tile_at}
use Rattle.fab_legal.specs.fab_model.proofs.Wires.{plain_wires_are_wires}
use Rattle.fab_legal.specs.fab_fabric.specs.Fabric.{AreTiles}
use Rattle.fab_legal.specs.fab_fabric.specs.Wires.{wire_index, numbered_wire, IsIndexOf, wire_join_to}
use Rattle.fab_legal.specs.fab_fabric.specs.declared.wire.Site.{Site}
use Rattle.fab_legal.specs.fab_fabric.specs.declared.wire.Wire.{Wire}
use Rattle.fab_legal.specs.fab_fabric.proofs.Numbered.{wires_are_named, one_wire, wire_with_number, some_item}
use Rattle.fab_legal.specs.fab_fabric.proofs.Pairs.{passes_named}
use Rattle.fab_legal.specs.fab_netlist.specs.declared.net_id.NetId.{NetId}
use Rattle.fab_legal.specs.fab_netlist.specs.Packed.{PlainCell, PlainPacked}
use Rattle.fab_legal.specs.fab_netlist.proofs.Members.{in_none, first_or_later, first_in, later_in, mapped_in, in_left, in_right}
use Rattle.fab_legal.specs.fab_implementation.specs.Plain.{Edge, PlainTree, PlainImplementation}
use Rattle.fab_legal.specs.fab_implementation.specs.OnFabric.{kind_at}
use Rattle.fab_legal.specs.WellMade.{IsWellMadePacked, IsWellMadeCell}
use Rattle.fab_legal.specs.Legal.{ArePlaced}
use Rattle.fab_legal.specs.Steps.{IsStep, IsPaired, IsJoined, HasPin, pin_wire}
use Rattle.fab_legal.specs.Nets.{Net}
use Rattle.fab_legal.specs.Sinks.{Required, cell_input, latch_enable, latch_reset, input_released, output_shown, output_driven, sinks, packed_net, named_sink}
use Rattle.fab_legal.proofs.Members.{in_either, from_mapped}
use Rattle.fab_legal.proofs.Pins.{is_tile_at}
use Rattle.fab_legal.proofs.SinkLaw.{sinks_are_required}
use Rattle.fab_ways_laws.specs.Placing.{same_net}
use Rattle.fab_ways_laws.specs.Routing.{Path, Paths, Walk, MayBegin, AreGrown, nets, sinks_of, negotiated, others}
use Rattle.fab_ways_laws.specs.Routing.Walk.{begins, goes}
use Rattle.fab_ways_laws.specs.Trees.{edge_into, edges_along, edges_of, by_line, trees_of, with_trees}
use Rattle.fab_ways_laws.proofs.InputPins.{pin_index, kind_of_line}
use Rattle.fab_ways_laws.proofs.Legal.{last_round}
use Rattle.fab_ways_laws.proofs.Lists.{none_some, from_filter}
use Rattle.fab_ways_laws.proofs.NetTrees.{from_trees}
use Rattle.fab_idle_pads_laws.specs.Idle.{IsIdlePad, MappingsLeaveIdlePads}

-- ---- wires that lead nowhere

abbrev LeadsNowhere : PlainFabric → Wire → Type 0
LeadsNowhere fabric from = (to : Wire) → IsStep fabric from to → ⊥

entered_last : (wire : ℕ) (before : Path) (edge : Edge) → Contains (edge_into wire before) edge → edge.1.0 ≡ wire
entered_last wire [] edge here = absurd (in_none edge here)
entered_last wire (from ∷ before) edge here =
    elim (first_or_later (numbered_wire from, numbered_wire wire) [] edge here) [
      | inl same ↦ sym (ap (λ (e : Edge). e.1.0) same)
      | inr none ↦ absurd (in_none edge none)
    ]

-- a walk enters such a wire at its end alone
module _ (fabric : PlainFabric) (tree : List ℕ) (IsStart : ℕ → Type 0) where
  entered_end : {wire : ℕ} {path : Path} → Walk fabric tree IsStart wire path → (edge : Edge) → Contains (edges_along path) edge → LeadsNowhere fabric edge.1 → edge.1.0 ≡ wire
  entered_end {wire} {path} (begins start) edge here nowhere = absurd (in_none edge here)
  entered_end {wire} {path} (goes {wire = from} {path = front} earlier taken free) edge here nowhere =
      elim (in_either (edges_along front) (edge_into wire front) edge here) [
        | inl before ↦ (
            let is : edge.1.0 ≡ from = entered_end earlier edge before nowhere in
            absurd (nowhere (numbered_wire wire) (subst (λ (w : ℕ). IsStep fabric (numbered_wire w) (numbered_wire wire)) (sym is) taken)))
        | inr last ↦ entered_last wire front edge last
      ]

-- so a tree enters it as a sink alone
module _ (fabric : PlainFabric) (placement : PlainImplementation) (net : Net) (price : ℕ → ℕ) where
  entered_sink : (tree sinks_left : List ℕ) (paths : Paths) → AreGrown fabric placement net price tree sinks_left paths → (edge : Edge) → Contains (edges_of paths) edge →
      LeadsNowhere fabric edge.1 → Contains sinks_left edge.1.0
  entered_sink tree [] [] grown edge here nowhere = absurd (in_none edge here)
  entered_sink tree [] (path ∷ paths) grown edge here nowhere = absurd grown
  entered_sink tree (sink ∷ more) [] grown edge here nowhere = absurd grown
  entered_sink tree (sink ∷ more) (path ∷ paths) grown edge here nowhere =
      elim (in_either (edges_along path) (edges_of paths) edge here) [
        | inl first ↦ (
            let is : edge.1.0 ≡ sink = entered_end fabric tree (MayBegin fabric placement net tree) grown.0.0 edge first nowhere in
            first_in sink more edge.1.0 (sym is))
        | inr rest ↦ later_in sink more edge.1.0 (entered_sink (tree ++ path) more paths grown.1 edge rest nowhere)
      ]

-- ---- T of a pad

module _ (fabric : PlainFabric) (are : AreTiles fabric) (site : Site) (is_pad : kind_at fabric site ≡ Some kinds.Io) where
  has_t : HasPin fabric site pad_t
  has_t = (kinds.Io, is_pad, omega arith)

  t_index : IsIndexOf fabric (pin_wire fabric site pad_t).0 site.x site.y (pin_of site.bel pad_t)
  t_index = pin_index fabric site pad_t has_t

  -- a wire that no matrix output is
  passed_over : (tile : PlainTile) (number : ℕ) (plain : PlainWire) → slice_get (plain_wires tile) number ≡ Some plain →
      wire_passes (λ wire. not (is_matrix_output wire)) tile number ≡ true → option_map_or is_matrix_output (wire_of tile plain) false ≡ true → ⊥
  passed_over tile number plain stands passes output =
      let both : option_map Some (slice_get (tile_wires tile) number) ≡ Some (wire_of tile plain) =
      sym (slice_get-map Some (tile_wires tile) number) ∙ sym (ap (λ wires. slice_get wires number) (plain_wires_are_wires tile))
      ∙ slice_get-map (wire_of tile) (plain_wires tile) number ∙ ap (option_map (wire_of tile)) stands in
      told (slice_get (tile_wires tile) number) refl both
    where
      told : (found : Option TileWire) → slice_get (tile_wires tile) number ≡ found → option_map Some (slice_get (tile_wires tile) number) ≡ Some (wire_of tile plain) → ⊥
      told None none both = (let clash : None ≡ Some (wire_of tile plain) = sym (ap (option_map Some) none) ∙ both in cc)
      told (Some wire) some both =
          let inner : Some (Some wire) ≡ Some (wire_of tile plain) = sym (ap (option_map Some) some) ∙ both in
          let is : Some wire ≡ wire_of tile plain = cc in
          let low : not (is_matrix_output wire) ≡ true = rw some at passes in
          let high : is_matrix_output wire ≡ true = ap (λ o. option_map_or is_matrix_output o false) is ∙ output in
          false≢true (sym (ap not high) ∙ low)

  t_output : (tile : PlainTile) → tile_at fabric site.x site.y ≡ Some tile → option_map_or is_matrix_output (wire_of tile (pin_of site.bel pad_t)) false ≡ true
  t_output tile there =
      of_kind (slice_get tile.bels site.bel)
      (sym (ap (λ o. option_map (λ (bel : Bel). bel.kind) (option_and_then (λ (t : PlainTile). slice_get t.bels site.bel) o)) there) ∙ is_pad)
    where
      of_kind : (found : Option Bel) → option_map (λ (bel : Bel). bel.kind) found ≡ Some kinds.Io →
          option_map_or is_matrix_output (option_map (λ bel. bel_pin bel pad_t) found) false ≡ true
      of_kind None is = absurd (none_some kinds.Io is)
      of_kind (Some bel) is =
          let both : Some bel.kind ≡ Some kinds.Io = is in
          let kind_is : bel.kind ≡ kinds.Io = cc in
          ap (λ kind. nat_lt pad_t (input_count kind)) kind_is

  t_unpaired : (to : Wire) → IsPaired fabric (pin_wire fabric site pad_t) to → ⊥
  t_unpaired to p =
      let is_tile : IsTile p.tile = is_tile_at fabric p.x p.y p.tile p.tile_is are in
      let is_pair : IsPair p.tile p.pair = All-contains (IsPair p.tile) p.tile.pairs p.pair is_tile.pairs p.listed in
      let plain = some_item (plain_wires p.tile) p.pair.input (omega (arith, passes_named (λ wire. not (is_matrix_output wire)) p.tile p.pair.input is_pair.input, wires_are_named p.tile)) in
      let index : IsIndexOf fabric (wire_index fabric p.x p.y p.pair.input) p.x p.y plain.0 = wire_with_number fabric p.x p.y p.pair.input p.tile plain.0 p.tile_is plain.1 in
      let same = one_wire fabric (pin_wire fabric site pad_t).0 site.x site.y p.x p.y (pin_of site.bel pad_t) plain.0 t_index
      (subst (λ (w : Wire). IsIndexOf fabric w.0 p.x p.y plain.0) (sym p.from_is) index) in
      let there : tile_at fabric site.x site.y ≡ Some p.tile = (λ j. tile_at fabric (same.0 j) (same.1 j)) ∙ p.tile_is in
      passed_over p.tile p.pair.input plain.0 plain.1 is_pair.input
      (ap (λ (w : PlainWire). option_map_or is_matrix_output (wire_of p.tile w) false) (sym same.2) ∙ t_output p.tile there)

  t_unjoined : (to : Wire) → IsJoined fabric (pin_wire fabric site pad_t) to → ⊥
  t_unjoined to j =
      let same = one_wire fabric (pin_wire fabric site pad_t).0 site.x site.y j.x j.y (pin_of site.bel pad_t) j.plain t_index j.from_is in
      none_some to (ap (wire_join_to fabric j.x j.y) same.2 ∙ j.joined)

  t_leads_nowhere : LeadsNowhere fabric (pin_wire fabric site pad_t)
  t_leads_nowhere to (inl paired) = t_unpaired to paired
  t_leads_nowhere to (inr joined) = t_unjoined to joined

  -- a pin with the same wire is one of the same site
  same_site : (other : Site) (pin : ℕ) → HasPin fabric other pin → (pin_wire fabric other pin).0 ≡ (pin_wire fabric site pad_t).0 → other ≡ site
  same_site other pin has is =
      let same = one_wire fabric (pin_wire fabric site pad_t).0 other.x other.y site.x site.y (pin_of other.bel pin) (pin_of site.bel pad_t)
      (subst (λ (n : ℕ). IsIndexOf fabric n other.x other.y (pin_of other.bel pin)) is (pin_index fabric other pin has)) t_index in
      let bel : other.bel ≡ site.bel = bel_of other.bel pin site.bel pad_t same.2 in
      λ j. record { x = same.0 j; y = same.1 j; bel = bel j }
    where
      bel_of : (a p b q : ℕ) → pin_of a p ≡ pin_of b q → a ≡ b
      bel_of a p b q e = cc

  -- so it is no pin of a cell
  no_cell : (other : Site) (pin : ℕ) → pin < length (pin_names kinds.Lut4c) → kind_at fabric other ≡ Some kinds.Lut4c → (pin_wire fabric other pin).0 ≡ (pin_wire fabric site pad_t).0 → ⊥
  no_cell other pin few kind_is is =
      let same = same_site other pin (kinds.Lut4c, kind_is, few) is in
      let kinds_are : Some kinds.Lut4c ≡ Some kinds.Io = sym kind_is ∙ ap (kind_at fabric) same ∙ is_pad in
      let counts = ap (λ o. option_map_or input_count o 0) kinds_are in
      omega (arith, counts)

-- ---- required sinks

module _ (fabric : PlainFabric) (are : AreTiles fabric) (packed : PlainPacked) (i : PlainImplementation) (made : IsWellMadePacked packed) (placed : ArePlaced fabric packed i)
    (site : Site) (idle : IsIdlePad fabric i site) where
  -- the pad of a port would be this one
  no_in : (port : List ℕ) (other : Site) (pin : ℕ) → pin < length (pin_names kinds.Io) → kind_at fabric other ≡ Some kinds.Io → (pin_wire fabric other pin).0 ≡ (pin_wire fabric site pad_t).0 →
      Contains (i.ins ++ i.outs) (port, other) → ⊥
  no_in port other pin few kind_is is listed =
      idle.no_port port (subst (λ (s : Site). Contains (i.ins ++ i.outs) (port, s)) (same_site fabric are site idle.is_pad other pin (kinds.Io, kind_is, few) is) listed)

  no_cell_pin : (number : ℕ) (other : Site) (pin : ℕ) → Contains i.cells (number, other) → pin < length (pin_names kinds.Lut4c) →
      (pin_wire fabric other pin).0 ≡ (pin_wire fabric site pad_t).0 → ⊥
  no_cell_pin number other pin here few is =
      no_cell fabric are site idle.is_pad other pin few
      (kind_of_line fabric kinds.Lut4c (λ n. n < length packed.cells) i.cells number other placed.cells.lines_right here) is

  no_required : (net : Net) (wire : Wire) → Required fabric packed i net wire → wire.0 ≡ (pin_wire fabric site pad_t).0 → ⊥
  no_required net wire (cell_input {number = number} {pin = pin} {site = other} {cell = cell} here at input) is =
      let well = subst (λ (c : PlainCell). IsWellMadeCell packed c) at.1 (made.cells number cell at.0) in
      let few : pin < length (pin_names kinds.Lut4c) = omega (arith, well.few_inputs, input.0) in
      no_cell_pin number other pin here few is
  no_required net wire (latch_enable {number = number} {site = other} here at latched) is = no_cell_pin number other lut_en here (omega arith) is
  no_required net wire (latch_reset {number = number} {site = other} here at latched) is = no_cell_pin number other lut_sr here (omega arith) is
  no_required net wire (input_released {port = port} {site = other} here) is =
      no_in port other pad_t (omega arith) (kind_of_line fabric kinds.Io (λ p. Contains packed.inputs p) i.ins port other placed.ports.ins.lines_right here) is
      (in_left i.ins i.outs (port, other) here)
  no_required net wire (output_shown {port = port} {site = other} here listed) is =
      no_in port other pad_i (omega arith) ((placed.ports.outs.lines_right here.0 (port, other) here.1 (here.1, here.2)).of_kind) is (in_right i.ins i.outs (port, other) here)
  no_required net wire (output_driven {port = port} {site = other} here) is =
      no_in port other pad_t (omega arith) ((placed.ports.outs.lines_right here.0 (port, other) here.1 (here.1, here.2)).of_kind) is (in_right i.ins i.outs (port, other) here)

-- ---- the law

pub mappings_leave_idle_pads : MappingsLeaveIdlePads
mappings_leave_idle_pads fabric packed fixed allowed implementation are made mapping site idle tree edge listed among is =
    let placement = mapping.placement in
    let routed = mapping.routed in
    let last = routed.last in
    let is_mapped : implementation ≡ with_trees placement (trees_of packed placement last) = mapping.is ∙ ap (with_trees placement) routed.trees_are in
    let placed : ArePlaced fabric packed placement = mapping.good.placed in
    let moved = subst (λ (i : PlainImplementation). IsIdlePad fabric i site) is_mapped idle in
    let idle_placed : IsIdlePad fabric placement site = record { is_pad = moved.is_pad; no_port = moved.no_port } in
    let rounds = last_round fabric packed placement routed.run routed.some_rounds in
    let found = from_trees (λ net. by_line packed placement net) (nets packed) last tree (subst (λ (i : PlainImplementation). Contains i.trees tree) is_mapped listed) in
    let here : Contains (edges_of found.paths) edge = subst (λ (t : PlainTree). Contains t.edges edge) found.tree_is among in
    let left = sinks_of fabric packed placement found.net in
    let grown = rounds.is_round.each found.place found.net found.paths found.net_at found.paths_at in
    let nowhere : LeadsNowhere fabric edge.1 = subst (LeadsNowhere fabric) (sym is) (t_leads_nowhere fabric are site idle.is_pad) in
    let sink = entered_sink fabric placement (packed_net packed found.net) (negotiated rounds.past rounds.round (others rounds.old last found.place)) [] left found.paths grown edge
    here nowhere in
    let all = sinks fabric packed placement in
    let from = from_mapped (λ (s : NetId × Wire). s.1.0) (filter (λ s. same_net s.0 found.net) all) edge.1.0 sink in
    let one = from_filter (λ s. same_net s.0 found.net) all from.0 from.1 in
    let required : Required fabric packed placement (packed_net packed from.0.0) from.0.1 =
    (sinks_are_required fabric packed placement made placed.cells placed.ports (packed_net packed from.0.0) from.0.1).0 (mapped_in (named_sink packed) all from.0 one.0) in
    no_required fabric are packed placement made placed site idle_placed (packed_net packed from.0.0) from.0.1 required (from.2 ∙ ap (λ (w : Wire). w.0) is)
