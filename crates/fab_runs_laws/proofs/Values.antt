-- Where each design point has the value of its source, the design carries the packed netlist.
use Rattle.std.proofs.Common.{◌≡◌, ◌<◌, ◌≤◌, ℕ, suc, Bool, true, false, not, List, [], ◌∷◌, codes, length, map, take, drop, get_or, nat_eq, bytes_eq, refl, sym, ap, ◌∙◌, subst, arith, inr, Option, Some, None, slice_get, Contains}
use Rattle.std.proofs.lemmas.Bool.Decides.{Decides-eqb}
use Rattle.std.proofs.lemmas.Slice.Eq.{bytes_eq-Decides}
use Rattle.std.proofs.lemmas.List.{length-map}
use Rattle.std.proofs.lemmas.List.Elements.{All-contains, Contains-append_left, Contains-append_right}
use Rattle.fab_bits.specs.Bits.{number as number_of}
use Rattle.fab_kinds.specs.declared.kind.Kind.{Kind}
use Rattle.fab_kinds.specs.declared.kind.Kind.TheVariants as kinds
use Rattle.fab_kinds.specs.Pins.{input_names, pin_names}
use Rattle.fab_meaning.specs.Points.{Point}
use Rattle.fab_meaning.specs.Settled.{Assignment}
use Rattle.fab_model.specs.Tiles.{PlainTile}
use Rattle.fab_model.specs.Grid.{PlainFabric, tile_at}
use Rattle.fab_fabric.specs.Fabric.{AreTiles}
use Rattle.fab_fabric.specs.declared.wire.Site.{Site}
use Rattle.fab_netlist.specs.declared.net_id.NetId.{NetId}
use Rattle.fab_netlist.specs.declared.net_id.NetId.TheVariants as ids
use Rattle.fab_netlist.specs.Plain.{PlainNetlist, IsAt, bit_at, name_of}
use Rattle.fab_netlist.specs.WellMade.{IsWellMade, table_bit}
use Rattle.fab_netlist.specs.Meaning.{Meets, reset_by, is_reset}
use Rattle.fab_netlist.specs.Packed.{PlainCell}
use Rattle.fab_netlist.specs.Packing.{Work, of_cover, of_latch, works, latch_of, latch_at, cell_of, packed, computes, held_or, Carries}
use Rattle.fab_netlist.proofs.Members.{at_in}
use Rattle.fab_implementation.specs.Plain.{Pad, PlainImplementation}
use Rattle.fab_implementation.specs.OnFabric.{kind_at}
use Rattle.fab_points_laws.specs.fab_legal_Lines.{IsCell, IsInput}
use Rattle.fab_points_laws.specs.fab_legal_Nets.{Net, zero_net, one_net, port_net, cell_net}
use Rattle.fab_points_laws.specs.fab_legal_Sinks.{Required, packed_net, reset_id, site_of, latch_enable, latch_reset, input_released, output_shown, output_driven}
use Rattle.fab_points_laws.specs.fab_legal_Sinks as sinks
use Rattle.fab_points_laws.specs.fab_legal_Steps.{pin_wire}
use Rattle.fab_points_laws.specs.fab_legal_WellMade.{IsWellMadeCell}
use Rattle.fab_points_laws.specs.fab_legal_Legal.{IsLegal}
use Rattle.fab_points_laws.proofs.fab_legal_Lists.{same_at, at_default, at_from_mapped}
use Rattle.fab_points_laws.proofs.fab_legal_SinkLaw.{known_site, site_is}
use Rattle.fab_points_laws.proofs.fab_legal_PackedMade.{packed_made}
use Rattle.fab_prim.specs.Ports.{top_name}
use Rattle.fab_prim.specs.Modules.{flip_flop_name}
use Rattle.fab_points_laws.specs.fab_use_defs_Sites.{bel_point, top_point, pin_point}
use Rattle.fab_points_laws.specs.fab_use_defs_Design.{IsBound}
use Rattle.fab_points_laws.specs.fab_use_defs_Sources as sources
use Rattle.fab_points_laws.specs.fab_use_defs_Sources.{Source, always, shows, source_value, HasSource, output_source}
use Rattle.fab_points_laws.specs.fab_use_defs_Registers.{HoldsLatches}
use Rattle.fab_points_laws.proofs.Places.{site_tile, cell_kind, in_kind, out_kind}
use Rattle.fab_points_laws.proofs.Sourced.{sources_are_of_design}
use Rattle.fab_runs_laws.specs.Carrying.{MeetsSources, PadsAreFed}
use Rattle.fab_runs_laws.proofs.Roots.{Begins, required_has}
use Rattle.fab_runs_laws.proofs.Cells.{index_each}

taken_are : (now : Point → Bool) (v : NetId → Bool) (nets : List NetId) (ps : List Point) → length nets ≤ length ps →
    ((k : ℕ) (p : Point) → k < length nets → slice_get ps k ≡ Some p → (net : NetId) → IsAt nets k net → now p ≡ v net) → map now (take (length nets) ps) ≡ map v nets
taken_are now v [] ps few each = refl
taken_are now v (net ∷ nets) [] few each = absurd (omega (arith, few))
taken_are now v (net ∷ nets) (p ∷ ps) few each =
    let here : now p ≡ v net = each 0 p (omega arith) refl net (omega arith, refl) in
    let rest : map now (take (length nets) ps) ≡ map v nets =
    taken_are now v nets ps (omega (arith, few)) (λ k q within is net at. each (suc k) q (omega (arith, within)) is net (omega (arith, at.0), at.1)) in
    cc

module _ (fabric : PlainFabric) (netlist : PlainNetlist) (fixed_pads : List Pad) (implementation : PlainImplementation) (inputs held now : Assignment) (given latches : List Bool)
    (are : AreTiles fabric) (made : IsWellMade netlist) (legal : IsLegal fabric (packed netlist) fixed_pads implementation)
    (meets : MeetsSources fabric (packed netlist) implementation inputs held now) where
  abbrev From : Point → Source → Type 0
  From p s = HasSource fabric (packed netlist) implementation p s

  met : (p : Point) (s : Source) → From p s → now p ≡ source_value inputs held now p s
  met p s from = meets p s (inr (sources_are_of_design fabric (packed netlist) fixed_pads implementation are (packed_made netlist made) legal p s from)) from

  -- the value of each net, read where it begins
  abbrev pub value : Net → Bool
  value zero_net = false
  value one_net = true
  value (port_net port) = now (bel_point (site_of bytes_eq implementation.ins port) (codes "O"))
  value (cell_net number) = now (bel_point (site_of nat_eq implementation.cells number) (codes "O"))

  abbrev pub values : NetId → Bool
  values id = value (packed_net (packed netlist) id)

  along : (b : Bool) (p q : Point) → From p (shows q) → now q ≡ b → now p ≡ b
  along b p q from is = met p (shows q) from ∙ is

  cell_site : (number : ℕ) (site : Site) → Contains implementation.cells (number, site) → site_of nat_eq implementation.cells number ≡ site
  cell_site number site listed = site_is nat_eq Decides-eqb fabric kinds.Lut4c (IsCell (packed netlist)) implementation.cells legal.placed.cells number site listed

  port_site : (port : List ℕ) (site : Site) → Contains implementation.ins (port, site) → site_of bytes_eq implementation.ins port ≡ site
  port_site port site listed = site_is bytes_eq bytes_eq-Decides fabric kinds.Io (IsInput (packed netlist)) implementation.ins legal.placed.ports.ins port site listed

  begins : (net : Net) → Begins fabric (packed netlist) fixed_pads implementation are legal (λ p. now p ≡ value net) (along (value net)) net
  begins zero_net = λ p from. met p (always false) from
  begins one_net = λ p from. met p (always true) from
  begins (port_net port) = λ site listed. ap (λ (s : Site). now (bel_point s (codes "O"))) (sym (port_site port site listed))
  begins (cell_net number) = λ site listed. ap (λ (s : Site). now (bel_point s (codes "O"))) (sym (cell_site number site listed))

  pin_value : (net : Net) (site : Site) (kind : Kind) (pin : ℕ) (tile : PlainTile) → Required fabric (packed netlist) implementation net (pin_wire fabric site pin) → kind_at fabric site ≡ Some kind →
      pin < length (pin_names kind) → tile_at fabric site.x site.y ≡ Some tile → now (pin_point tile site pin) ≡ value net
  pin_value net = required_has fabric (packed netlist) fixed_pads implementation are legal (λ p. now p ≡ value net) (along (value net)) net (begins net)

  -- ---- cells

  module _ (number : ℕ) (site : Site) (cell : PlainCell) (bound : IsBound (packed netlist) implementation number site cell) where
    kind : kind_at fabric site ≡ Some kinds.Lut4c
    kind = cell_kind fabric (packed netlist) fixed_pads implementation legal number site cell bound

    at_tile : (tile : PlainTile) × (tile_at fabric site.x site.y ≡ Some tile)
    at_tile = site_tile fabric site kinds.Lut4c kind

    few_inputs : length cell.inputs ≤ 4
    few_inputs = (All-contains (IsWellMadeCell (packed netlist)) (packed netlist).cells cell (packed_made netlist made).cells (number, bound.cell_is.0, bound.cell_is.1)).few_inputs

    input_value : (pin : ℕ) (name : List ℕ) → pin < length cell.inputs → slice_get (input_names kinds.Lut4c) pin ≡ Some name → (net : NetId) → IsAt cell.inputs pin net → now (bel_point site name) ≡ values net
    input_value pin name few is net at =
        met _ _ (sources.cell_input pin bound at_tile.1 few is)
        ∙ pin_value (packed_net (packed netlist) net) site kinds.Lut4c pin at_tile.0 (sinks.cell_input bound.listed bound.cell_is at) kind (omega (arith, few, few_inputs)) at_tile.1

    index_value : 0 < length cell.inputs → (net : NetId) → IsAt cell.inputs 0 net → now (bel_point site (codes "x")) ≡ values net
    index_value some net at =
        met _ _ (sources.cell_index bound some) ∙ input_value 0 (codes "I0") some refl net at

    pub table_value : now (bel_point site (codes "t")) ≡ computes cell values
    table_value =
        met _ _ (sources.cell_table bound)
        ∙ ap (λ bits. table_bit cell.table (number_of bits))
        (taken_are now values cell.inputs (bel_point site (codes "x") ∷ map (bel_point site) (take 3 (drop 1 (input_names kinds.Lut4c)))) few_inputs
        (index_each site cell (λ k p. (net : NetId) → IsAt cell.inputs k net → now p ≡ values net) index_value input_value))

    output_value : (latch : Option ℕ) → cell.latch ≡ latch → now (bel_point site (codes "O")) ≡ source_value inputs held now (bel_point site (codes "O")) (output_source site latch)
    output_value latch is =
        met _ _ (sources.cell_output bound)
        ∙ ap (λ l. source_value inputs held now (bel_point site (codes "O")) (output_source site l)) is

    held_value : (init : ℕ) → cell.latch ≡ Some init → now (bel_point site (codes "O")) ≡ held (bel_point site flip_flop_name)
    held_value init latched =
        output_value (Some init) latched ∙ met _ _ (sources.cell_register bound latched)

    pub enabled : (init : ℕ) → cell.latch ≡ Some init → now (bel_point site (codes "EN")) ≡ true
    enabled init latched =
        met _ _ (sources.cell_enable bound at_tile.1 latched)
        ∙ pin_value one_net site kinds.Lut4c 6 at_tile.0 (latch_enable bound.listed bound.cell_is latched) kind (omega arith) at_tile.1

    reset_pin : (init : ℕ) → cell.latch ≡ Some init → now (bel_point site (codes "SR")) ≡ values (reset_id netlist.reset)
    reset_pin init latched =
        met _ _ (sources.cell_reset bound at_tile.1 latched)
        ∙ pin_value (packed_net (packed netlist) (reset_id netlist.reset)) site kinds.Lut4c 5 at_tile.0 (latch_reset bound.listed bound.cell_is latched) kind (omega arith) at_tile.1

    module _ (holds : HoldsLatches netlist implementation held latches) where
      by_work : (work : Work) → IsAt (works netlist) number work → cell_of netlist work ≡ cell → now (bel_point site (codes "O")) ≡ held_or (latch_of work) (bit_at latches) (computes cell values)
      by_work (of_cover cover None) at is = output_value None (ap (λ (c : PlainCell). c.latch) (sym is)) ∙ table_value
      by_work (of_cover cover (Some place)) at is =
          held_value (latch_at netlist place).init (ap (λ (c : PlainCell). c.latch) (sym is)) ∙ sym (holds.each number place (of_cover cover (Some place)) site at refl bound.listed)
      by_work (of_latch place) at is =
          held_value (latch_at netlist place).init (ap (λ (c : PlainCell). c.latch) (sym is)) ∙ sym (holds.each number place (of_latch place) site at refl bound.listed)

  -- ---- pads of inputs

  in_tile : (port : List ℕ) (site : Site) → Contains implementation.ins (port, site) → (tile : PlainTile) × (tile_at fabric site.x site.y ≡ Some tile)
  in_tile port site listed = site_tile fabric site kinds.Io (in_kind fabric (packed netlist) fixed_pads implementation legal port site listed)

  outer_value : (port : List ℕ) (site : Site) → Contains implementation.ins (port, site) → now (bel_point site (codes "O")) ≡ inputs (top_point site top_name)
  outer_value port site listed =
      met _ _ (sources.pad_output listed) ∙ met _ _ (sources.pad_bel listed) ∙ met _ _ (sources.pad_tile listed) ∙ met _ _ (sources.pad_top listed)

  pub released : (port : List ℕ) (site : Site) → Contains implementation.ins (port, site) → now (top_point site (codes "T_top")) ≡ true
  released port site listed =
      let at = in_tile port site listed in
      let either = Contains-append_left implementation.ins implementation.outs (port, site) listed in
      let turned : now (bel_point site (codes "T")) ≡ false =
      met _ _ (sources.turned_bel either at.1)
      ∙ pin_value zero_net site kinds.Io 1 at.0 (input_released listed) (in_kind fabric (packed netlist) fixed_pads implementation legal port site listed) (omega arith) at.1 in
      met _ _ (sources.turned_outside either) ∙ met _ _ (sources.turned_tile either) ∙ met _ _ (sources.turned_top either) ∙ ap not turned

  -- ---- pads of outputs

  out_tile : (port : List ℕ) (site : Site) → Contains implementation.outs (port, site) → (tile : PlainTile) × (tile_at fabric site.x site.y ≡ Some tile)
  out_tile port site listed = site_tile fabric site kinds.Io (out_kind fabric (packed netlist) fixed_pads implementation legal port site listed)

  pub driven : (port : List ℕ) (site : Site) → Contains implementation.outs (port, site) → now (top_point site (codes "T_top")) ≡ false
  driven port site listed =
      let at = out_tile port site listed in
      let either = Contains-append_right implementation.ins implementation.outs (port, site) listed in
      let turned : now (bel_point site (codes "T")) ≡ true =
      met _ _ (sources.turned_bel either at.1)
      ∙ pin_value one_net site kinds.Io 1 at.0 (output_driven listed) (out_kind fabric (packed netlist) fixed_pads implementation legal port site listed) (omega arith) at.1 in
      met _ _ (sources.turned_outside either) ∙ met _ _ (sources.turned_tile either) ∙ met _ _ (sources.turned_top either) ∙ ap not turned

  pub shown : (port : List ℕ) (site : Site) (id : NetId) → Contains implementation.outs (port, site) → Contains (packed netlist).outputs (port, id) → now (top_point site (codes "I_top")) ≡ values id
  shown port site id listed among =
      let at = out_tile port site listed in
      met _ _ (sources.shown_outside listed)
      ∙ met _ _ (sources.shown_tile listed)
      ∙ met _ _ (sources.shown_top listed)
      ∙ met _ _ (sources.shown_bel listed at.1)
      ∙ pin_value (packed_net (packed netlist) id) site kinds.Io 0 at.0 (output_shown listed among) (out_kind fabric (packed netlist) fixed_pads implementation legal port site listed) (omega arith) at.1

  -- ---- all nets

  module _ (fed : PadsAreFed netlist implementation given inputs) (holds : HoldsLatches netlist implementation held latches) where
    cell_carried : (place : ℕ) (work : Work) (cell : PlainCell) → IsAt (works netlist) place work → IsAt (packed netlist).cells place cell →
        values (ids.Cell place) ≡ held_or (latch_of work) (bit_at latches) (computes cell values)
    cell_carried place work cell at_work at_cell =
        let site = site_of nat_eq implementation.cells place in
        let listed : Contains implementation.cells (place, site) = known_site nat_eq Decides-eqb fabric kinds.Lut4c (IsCell (packed netlist)) implementation.cells legal.placed.cells place at_cell.0 in
        let from = at_from_mapped (cell_of netlist) (works netlist) place cell at_cell in
        let same_work : from.0 ≡ work = same_at (works netlist) place from.0 work from.1 at_work in
        by_work place site cell (record { listed = listed; cell_is = at_cell }) holds work at_work (ap (cell_of netlist) (sym same_work) ∙ from.2)

    input_carried : (place : ℕ) → place < length netlist.inputs → values (ids.In place) ≡ bit_at given place
    input_carried place below =
        let port = get_or (packed netlist).inputs place [] in
        let as_many = length-map netlist.inputs (name_of netlist) in
        let at : IsAt (packed netlist).inputs place port = at_default (packed netlist).inputs place [] (omega (arith, below, as_many)) in
        let from = at_from_mapped (name_of netlist) netlist.inputs place port at in
        let site = site_of bytes_eq implementation.ins port in
        let listed : Contains implementation.ins (port, site) =
        known_site bytes_eq bytes_eq-Decides fabric kinds.Io (IsInput (packed netlist)) implementation.ins legal.placed.ports.ins port (at_in (packed netlist).inputs place port at) in
        outer_value port site listed
        ∙ fed place from.0 site from.1 (subst (λ (name : List ℕ). Contains implementation.ins (name, site)) (sym from.2) listed)

    pub carries : Carries netlist (bit_at given) (bit_at latches) values
    carries = record { zero = refl; one = refl; inputs = input_carried; cells = cell_carried }

    -- ---- the reset port

    module _ (nets : ℕ → Bool) (of_nets : Meets netlist (bit_at given) (bit_at latches) nets) where
      reset_carried : (reset : Option ℕ) → ((place : ℕ) → reset ≡ Some place → place < length netlist.inputs) → values (reset_id reset) ≡ reset_by netlist.inputs nets reset
      reset_carried None below = refl
      reset_carried (Some place) below =
          let few = below place refl in
          input_carried place few ∙ sym (of_nets.inputs place (get_or netlist.inputs place 0) (at_default netlist.inputs place 0 few))

      -- the flip-flop of a latch is reset where the netlist is
      pub resets_as : (number : ℕ) (site : Site) (cell : PlainCell) → IsBound (packed netlist) implementation number site cell → (init : ℕ) → cell.latch ≡ Some init →
          now (bel_point site (codes "SR")) ≡ is_reset netlist nets
      resets_as number site cell bound init latched = reset_pin number site cell bound init latched ∙ reset_carried netlist.reset made.reset_below
