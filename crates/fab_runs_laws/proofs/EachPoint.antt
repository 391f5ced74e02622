-- What goes from all that a source reads to its point holds of all design points that have sources.
use Rattle.std.proofs.Common.{◌≡◌, ◌<◌, ◌≤◌, ℕ, zero, suc, true, false, List, [], ◌∷◌, ◌++◌, codes, length, map, take, drop, get_or, is_some, if◌then◌else◌, All, refl, sym, ap, ◌∙◌, subst, arith, inl, inr, Option, Some, None, slice_get, Contains}
use Rattle.std.specs.Option.{option_map_or}
use Rattle.std.proofs.lemmas.Bool.{cases_Bool, false≢true}
use Rattle.std.proofs.lemmas.List.Elements.{All-nil, All-cons, All-contains, Contains-append_left, Contains-append_right, Contains-append_cases}
use Rattle.fab_kinds.specs.declared.kind.Kind.TheVariants as kinds
use Rattle.fab_kinds.specs.Pins.{input_names}
use Rattle.fab_meaning.specs.Points.{Point, point}
use Rattle.fab_meaning.proofs.Modules.{each_all}
use Rattle.fab_model.specs.Rows.{is_jump, border_bits}
use Rattle.fab_model.specs.Tiles.{PlainTile, is_matrix_output}
use Rattle.fab_model.specs.Wires.{PlainWire, dest_of, wire_of}
use Rattle.fab_model.specs.Grid.{PlainFabric, tile_at}
use Rattle.fab_model.specs.Cascade.{PlacedRow, placed_row}
use Rattle.fab_fabric.specs.Fabric.{AreTiles}
use Rattle.fab_fabric.specs.Wires.{row_place}
use Rattle.fab_fabric.specs.declared.wire.Site.{Site}
use Rattle.fab_netlist.specs.declared.net_id.NetId.{NetId}
use Rattle.fab_netlist.specs.declared.net_id.NetId.TheVariants as ids
use Rattle.fab_netlist.specs.Plain.{PlainNetlist, IsAt}
use Rattle.fab_netlist.specs.WellMade.{IsWellMade}
use Rattle.fab_netlist.specs.Cycles.{HasNoCycle}
use Rattle.fab_netlist.specs.Packed.{PlainCell}
use Rattle.fab_netlist.specs.Packing.{packed}
use Rattle.fab_netlist.proofs.Members.{at_in}
use Rattle.fab_implementation.specs.Plain.{Edge, Pad, PlainTree, PlainImplementation}
use Rattle.fab_implementation.specs.OnFabric.{kind_at}
use Rattle.fab_points_laws.specs.fab_legal_Lines.{IsOutput}
use Rattle.fab_points_laws.specs.fab_legal_Nets.{Net, zero_net, one_net, port_net, cell_net, net_among}
use Rattle.fab_points_laws.specs.fab_legal_Sinks.{packed_net, reset_id, cell_input, latch_enable, latch_reset, input_released, output_shown, output_driven}
use Rattle.fab_points_laws.specs.fab_legal_WellMade.{IsWellMadeCell, output_name}
use Rattle.fab_points_laws.specs.fab_legal_Legal.{IsLegal}
use Rattle.fab_points_laws.proofs.fab_legal_Lists.{at_default}
use Rattle.fab_points_laws.proofs.fab_legal_Members.{from_mapped}
use Rattle.fab_points_laws.proofs.fab_legal_Once.{known_thing}
use Rattle.fab_points_laws.proofs.fab_legal_PackedMade.{packed_made}
use Rattle.fab_prim.specs.Ports.{top_name}
use Rattle.fab_prim.specs.Modules.{flip_flop_name}
use Rattle.fab_points_laws.specs.fab_drives_laws_Points.{place_path, IsOnWay}
use Rattle.fab_points_laws.specs.fab_gen_tile_TileModule.{matrix_output_names}
use Rattle.fab_points_laws.specs.fab_tile_drives_laws_Stands.{matrix_path, name_of, wire_point}
use Rattle.fab_points_laws.specs.fab_use_defs_Design as design
use Rattle.fab_points_laws.specs.fab_use_defs_Sites.{bel_point, port_point, top_point, pin_point}
use Rattle.fab_points_laws.specs.fab_use_defs_Design.{input_pad, output_pad, IsTreeWire, IsBound, IsSourced, IsRoutePoint, IsCellPoint, IsPadPoint}
use Rattle.fab_points_laws.specs.fab_use_defs_Sources as sources
use Rattle.fab_points_laws.specs.fab_use_defs_Ways as ways
use Rattle.fab_points_laws.specs.fab_use_defs_Sources.{Source, always, shows, source_reads, HasSource, output_source}
use Rattle.fab_points_laws.proofs.Places.{site_tile, cell_kind, in_kind, out_kind, left_tree}
use Rattle.fab_points_laws.proofs.Covers.{from_take, by_edge, way_walk}
use Rattle.fab_points_laws.proofs.ReadPoints.{all_take}
use Rattle.fab_points_laws.proofs.Origins.{origin}
use Rattle.fab_runs_laws.proofs.Edges.{HasIt, port_along, way_has}
use Rattle.fab_runs_laws.proofs.CellOrder.{keeps_order}
use Rattle.fab_runs_laws.proofs.Roots.{Begins, net_has, required_has, bound_cell}
use Rattle.fab_runs_laws.proofs.Cells.{index_each}

one : {X : Type 0} (P : X → Type 0) (x : X) → P x → All P (x ∷ [])
one P x is = All-cons P x [] is (All-nil P)

-- the cell whose net this is
cell_of_net : (inputs : List (List ℕ)) (id : NetId) (number : ℕ) → net_among inputs id ≡ cell_net number → id ≡ ids.Cell number
cell_of_net inputs ids.Zero number is = cc
cell_of_net inputs ids.One number is = cc
cell_of_net inputs (ids.In place) number is = cc
cell_of_net inputs (ids.Cell place) number is = (let e : place ≡ number = cc in ap ids.Cell e)

module _ (fabric : PlainFabric) (netlist : PlainNetlist) (fixed_pads : List Pad) (implementation : PlainImplementation) (are : AreTiles fabric) (made : IsWellMade netlist) (acyclic : HasNoCycle netlist)
    (legal : IsLegal fabric (packed netlist) fixed_pads implementation) (Q : Point → Type 0)
    (closed : (p : Point) (s : Source) → HasSource fabric (packed netlist) implementation p s → All Q (source_reads s) → Q p) where
  abbrev From : Point → Source → Type 0
  From p s = HasSource fabric (packed netlist) implementation p s

  pub along : (p q : Point) → From p (shows q) → Q q → Q p
  along p q from is = closed p (shows q) from (one Q q is)

  -- ---- pads of inputs

  module _ (port : List ℕ) (site : Site) (listed : Contains implementation.ins (port, site)) where
    in_top : Q (top_point site top_name)
    in_top = closed _ _ (sources.pad_top listed) (All-nil Q)

    in_port : Q (port_point site top_name)
    in_port = along _ _ (sources.pad_tile listed) in_top

    in_bel : Q (bel_point site top_name)
    in_bel = along _ _ (sources.pad_bel listed) in_port

    in_output : Q (bel_point site (codes "O"))
    in_output = along _ _ (sources.pad_output listed) in_bel

  -- ---- nets

  begins_by : (net : Net) → ((number : ℕ) (site : Site) → net ≡ cell_net number → Contains implementation.cells (number, site) → Q (bel_point site (codes "O"))) →
      Begins fabric (packed netlist) fixed_pads implementation are legal Q along net
  begins_by zero_net cells = λ p from. closed p (always false) from (All-nil Q)
  begins_by one_net cells = λ p from. closed p (always true) from (All-nil Q)
  begins_by (port_net port) cells = λ site listed. in_output port site listed
  begins_by (cell_net number) cells = λ site listed. cells number site refl listed

  -- ---- cells

  module _ (number : ℕ) (site : Site) (cell : PlainCell) (bound : IsBound (packed netlist) implementation number site cell) where
    kind : kind_at fabric site ≡ Some kinds.Lut4c
    kind = cell_kind fabric (packed netlist) fixed_pads implementation legal number site cell bound

    at_tile : (tile : PlainTile) × (tile_at fabric site.x site.y ≡ Some tile)
    at_tile = site_tile fabric site kinds.Lut4c kind

    few_inputs : length cell.inputs ≤ 4
    few_inputs = (All-contains (IsWellMadeCell (packed netlist)) (packed netlist).cells cell (packed_made netlist made).cells (number, bound.cell_is.0, bound.cell_is.1)).few_inputs

    register_has : (init : ℕ) → cell.latch ≡ Some init → Q (bel_point site flip_flop_name)
    register_has init latched =
        closed _ _ (sources.cell_register bound latched) (All-nil Q)

    shown_has : (latch : Option ℕ) → cell.latch ≡ latch → All Q (source_reads (output_source site latch)) → Q (bel_point site (codes "O"))
    shown_has latch is all =
        closed _ _ (subst (λ (l : Option ℕ). From (bel_point site (codes "O")) (output_source site l)) is (sources.cell_output bound)) all

    latched_has : (init : ℕ) → cell.latch ≡ Some init → Q (bel_point site (codes "O"))
    latched_has init latched = shown_has (Some init) latched (one Q (bel_point site flip_flop_name) (register_has init latched))

    -- where the nets that it reads have it
    module _ (reads : (pin : ℕ) (net : NetId) → IsAt cell.inputs pin net → Begins fabric (packed netlist) fixed_pads implementation are legal Q along (packed_net (packed netlist) net)) where
      pin_has : (pin : ℕ) (name : List ℕ) → pin < length cell.inputs → slice_get (input_names kinds.Lut4c) pin ≡ Some name → Q (bel_point site name)
      pin_has pin name few is =
          let net = get_or cell.inputs pin ids.Zero in
          let at : IsAt cell.inputs pin net = at_default cell.inputs pin ids.Zero few in
          along _ _ (sources.cell_input pin bound at_tile.1 few is)
          (required_has fabric (packed netlist) fixed_pads implementation are legal Q along (packed_net (packed netlist) net) (reads pin net at) site kinds.Lut4c pin at_tile.0
          (cell_input bound.listed bound.cell_is at) kind (omega (arith, few, few_inputs)) at_tile.1)

      index_has : 0 < length cell.inputs → Q (bel_point site (codes "x"))
      index_has some =
          along _ _ (sources.cell_index bound some) (pin_has 0 (codes "I0") some refl)

      table_has : Q (bel_point site (codes "t"))
      table_has =
          closed _ _ (sources.cell_table bound)
          (all_take Q (length cell.inputs) (bel_point site (codes "x") ∷ map (bel_point site) (take 3 (drop 1 (input_names kinds.Lut4c))))
          (index_each site cell (λ k p. Q p) index_has pin_has))

      plain_has : cell.latch ≡ None → Q (bel_point site (codes "O"))
      plain_has none = shown_has None none (one Q (bel_point site (codes "t")) table_has)

  abbrev rank : ℕ → ℕ
  rank = (keeps_order netlist made acyclic).0

  -- the cell of a net that a cell reads, where cells of lower rank have it
  source_has : (number : ℕ) (cell : PlainCell) → IsAt (packed netlist).cells number cell → cell.latch ≡ None → (net : NetId) → Contains cell.inputs net → (other : ℕ) (place : Site) →
      packed_net (packed netlist) net ≡ cell_net other → (source : PlainCell) → IsBound (packed netlist) implementation other place source →
      (source.latch ≡ None → rank other < rank number → Q (bel_point place (codes "O"))) → (latch : Option ℕ) → source.latch ≡ latch → Q (bel_point place (codes "O"))
  source_has number cell at plain net read other place of_net source there lower (Some init) latched = latched_has other place source there init latched
  source_has number cell at plain net read other place of_net source there lower None none =
      let id : net ≡ ids.Cell other = cell_of_net (packed netlist).inputs net other of_net in
      lower none ((keeps_order netlist made acyclic).1 other number source cell there.cell_is at none plain (subst (λ (n : NetId). Contains cell.inputs n) id read))

  below : (m number : ℕ) (site : Site) (cell : PlainCell) → IsBound (packed netlist) implementation number site cell → (latch : Option ℕ) → cell.latch ≡ latch → rank number < m → Q (bel_point site (codes "O"))
  below m number site cell bound (Some init) is less = latched_has number site cell bound init is
  below zero number site cell bound None is less = absurd (omega (arith, less))
  below (suc m) number site cell bound None is less =
      plain_has number site cell bound (λ pin net at. begins_by (packed_net (packed netlist) net) (λ other place of_net listed.
      let found = bound_cell fabric (packed netlist) fixed_pads implementation are legal other place listed in
      source_has number cell bound.cell_is is net (at_in cell.inputs pin net at) other place of_net found.0 found.1
      (λ none lower. below m other place found.0 found.1 None none (omega (arith, less, lower))) found.0.latch refl)) is

  pub cell_output : (number : ℕ) (site : Site) → Contains implementation.cells (number, site) → Q (bel_point site (codes "O"))
  cell_output number site listed =
      let found = bound_cell fabric (packed netlist) fixed_pads implementation are legal number site listed in
      below (suc (rank number)) number site found.0 found.1 found.0.latch refl (omega arith)

  pub begins : (net : Net) → Begins fabric (packed netlist) fixed_pads implementation are legal Q along net
  begins net = begins_by net (λ number site is listed. cell_output number site listed)

  -- ---- wires of trees

  pub tree_has : (x y : ℕ) (tile : PlainTile) (plain : PlainWire) → IsTreeWire fabric implementation x y tile plain → Q (wire_point (place_path x y) tile plain)
  tree_has x y tile plain tree = net_has fabric (packed netlist) fixed_pads implementation are legal Q along tree.net (begins tree.net) tree.wire tree.stands x y tile plain tree.is_index tree.tile_is

  -- ---- all points

  edge_has : (tree : PlainTree) (edge : Edge) → Contains implementation.trees tree → Contains tree.edges edge → HasIt fabric Q edge.0
  edge_has tree edge listed among = λ x y tile plain index there. tree_has x y tile plain (left_tree fabric implementation tree edge x y tile plain listed among there index)

  -- a matrix output is entered by an edge
  port_has : (x y : ℕ) (tile : PlainTile) (plain : PlainWire) → IsTreeWire fabric implementation x y tile plain → 0 < length (matrix_output_names tile) → Q (point (matrix_path (place_path x y)) (name_of tile plain) 0)
  port_has x y tile plain tree some =
      elim (cases_Bool (option_map_or is_matrix_output (wire_of tile plain) false)) [
        | inl output ↦ (
            let b = by_edge fabric (packed netlist) fixed_pads implementation are legal x y tile plain tree.tile_is output (origin fabric (packed netlist) fixed_pads implementation are legal x y tile plain tree.tile_is tree) in
            port_along fabric (packed netlist) fixed_pads implementation are legal Q along b.tree b.edge b.listed b.among (edge_has b.tree b.edge b.listed b.among) x y tile plain b.to tree.tile_is output)
        | inr no_output ↦ along _ _ (sources.of_input tree (λ output. false≢true (sym no_output ∙ output)) some) (tree_has x y tile plain tree)
      ]

  between_has : (x y row bit : ℕ) (tile : PlainTile) (here : PlacedRow) (p : Point) → IsTreeWire fabric implementation x y tile (dest_of row bit) → placed_row fabric (row_place x y row) ≡ Some here →
      is_jump here.row.dir ≡ false → IsOnWay fabric here bit p → Q p
  between_has x y row bit tile here p tree placed_is no_jump on_way =
      let w = way_walk fabric (packed netlist) fixed_pads implementation are legal x y row bit tile here tree placed_is no_jump in
      let b = w.0 in
      way_has fabric (packed netlist) fixed_pads implementation are legal Q along b.tree b.edge b.listed b.among (edge_has b.tree b.edge b.listed b.among) x y row bit tile here tree placed_is no_jump
      (row_place b.join.from_x b.join.from_y b.join.from_row, b.join.source) b.join.from (border_bits here.row) here bit p ways.ends w.1 on_way

  route_has : (p : Point) → IsRoutePoint fabric implementation p → Q p
  route_has p (design.in_tile {x} {y} {tile} {plain} tree) = tree_has x y tile plain tree
  route_has p (design.in_matrix {x} {y} {tile} {plain} tree some) = port_has x y tile plain tree some
  route_has p (design.between {x} {y} {row} {bit} {tile} {here} tree placed_is no_jump on_way) = between_has x y row bit tile here p tree placed_is no_jump on_way

  -- ---- cells

  abbrev reset_net : Net
  reset_net = packed_net (packed netlist) (reset_id netlist.reset)

  pin_of_cell : (number : ℕ) (site : Site) (cell : PlainCell) (name : List ℕ) → IsBound (packed netlist) implementation number site cell → (latch : Option ℕ) → cell.latch ≡ latch →
      Contains (if is_some latch then codes "SR" ∷ codes "EN" ∷ [] else []) name → Q (bel_point site name)
  pin_of_cell number site cell name bound None is among = absurd (let few = among.1 in omega (arith, few))
  pin_of_cell number site cell name bound (Some init) is among =
      let at = at_tile number site cell bound in
      All-contains (λ name. Q (bel_point site name)) (codes "SR" ∷ codes "EN" ∷ []) name
      (each_all (λ name. Q (bel_point site name)) (codes "SR" ∷ codes "EN" ∷ []) (
        along _ _ (sources.cell_reset bound at.1 is)
            (required_has fabric (packed netlist) fixed_pads implementation are legal Q along reset_net (begins reset_net) site kinds.Lut4c 5 at.0 (latch_reset bound.listed bound.cell_is is) (kind number site cell bound) (omega arith) at.1),
        (
          along _ _ (sources.cell_enable bound at.1 is)
              (required_has fabric (packed netlist) fixed_pads implementation are legal Q along one_net (begins one_net) site kinds.Lut4c 6 at.0 (latch_enable bound.listed bound.cell_is is) (kind number site cell bound) (omega arith) at.1),
          tt,
        ),
      )) among

  each_read : (cell : PlainCell) (pin : ℕ) (net : NetId) → IsAt cell.inputs pin net → Begins fabric (packed netlist) fixed_pads implementation are legal Q along (packed_net (packed netlist) net)
  each_read cell pin net at = begins (packed_net (packed netlist) net)

  cell_point_has : (p : Point) → IsCellPoint (packed netlist) implementation p → Q p
  cell_point_has p (design.at_pin {cell_number} {site} {cell} {name} bound among) =
      elim (Contains-append_cases (take (length cell.inputs) (input_names kinds.Lut4c)) (if is_some cell.latch then codes "SR" ∷ codes "EN" ∷ [] else []) name among) [
        | inl used ↦ (let k = from_take (length cell.inputs) (input_names kinds.Lut4c) name used in pin_has cell_number site cell bound (each_read cell) k.0 name k.1 k.2)
        | inr latched ↦ pin_of_cell cell_number site cell name bound cell.latch refl latched
      ]
  cell_point_has p (design.at_table {cell_number} {site} {cell} bound) = table_has cell_number site cell bound (each_read cell)
  cell_point_has p (design.at_output {cell_number} {site} {cell} bound) = cell_output cell_number site bound.listed
  cell_point_has p (design.at_index {cell_number} {site} {cell} bound some) = index_has cell_number site cell bound (each_read cell) some
  cell_point_has p (design.at_flip_flop {cell_number} {init} {site} {cell} bound latched) = register_has cell_number site cell bound init latched

  -- ---- the direction of pads

  module _ (port : List ℕ) (site : Site) (either : Contains (implementation.ins ++ implementation.outs) (port, site)) (tile : PlainTile) (there : tile_at fabric site.x site.y ≡ Some tile)
      (wire : Q (pin_point tile site 1)) where
    t_has : Q (bel_point site (codes "T"))
    t_has = along _ _ (sources.turned_bel either there) wire

    t_top_has : Q (bel_point site (codes "T_top"))
    t_top_has = closed _ _ (sources.turned_top either) (one Q (bel_point site (codes "T")) t_has)

    t_port_has : Q (port_point site (codes "T_top"))
    t_port_has = along _ _ (sources.turned_tile either) t_top_has

    t_outside_has : Q (top_point site (codes "T_top"))
    t_outside_has = along _ _ (sources.turned_outside either) t_port_has

  -- ---- pads

  module _ (port : List ℕ) (site : Site) (tile : PlainTile) (there : tile_at fabric site.x site.y ≡ Some tile) where
    module _ (listed : Contains implementation.ins (port, site)) where
      in_either : Contains (implementation.ins ++ implementation.outs) (port, site)
      in_either = Contains-append_left implementation.ins implementation.outs (port, site) listed

      in_wire : Q (pin_point tile site 1)
      in_wire =
          required_has fabric (packed netlist) fixed_pads implementation are legal Q along zero_net (begins zero_net) site kinds.Io 1 tile (input_released listed)
          (in_kind fabric (packed netlist) fixed_pads implementation legal port site listed) (omega arith) there

      in_pad_has : All Q (input_pad tile site)
      in_pad_has = each_all Q (input_pad tile site) (
        in_bel port site listed,
        (
          in_output port site listed,
          (
            t_has port site in_either tile there in_wire,
            (
              t_top_has port site in_either tile there in_wire,
              (
                in_port port site listed,
                (
                  t_port_has port site in_either tile there in_wire,
                  (
                    along _ _ (sources.pad_wire listed there) (in_output port site listed),
                    (
                      in_wire,
                      (
                        in_top port site listed,
                        (
                          t_outside_has port site in_either tile there in_wire,
                          tt,
                        ),
                      ),
                    ),
                  ),
                ),
              ),
            ),
          ),
        ),
      )

    module _ (listed : Contains implementation.outs (port, site)) where
      out_either : Contains (implementation.ins ++ implementation.outs) (port, site)
      out_either = Contains-append_right implementation.ins implementation.outs (port, site) listed

      out_wire : Q (pin_point tile site 1)
      out_wire =
          required_has fabric (packed netlist) fixed_pads implementation are legal Q along one_net (begins one_net) site kinds.Io 1 tile (output_driven listed)
          (out_kind fabric (packed netlist) fixed_pads implementation legal port site listed) (omega arith) there

      shown_wire : Q (pin_point tile site 0)
      shown_wire =
          let known = known_thing (IsOutput (packed netlist)) fabric kinds.Io implementation.outs (port, site) legal.placed.ports.outs.lines_right listed in
          let output = from_mapped output_name (packed netlist).outputs port known in
          let among : Contains (packed netlist).outputs (port, output.0.1) = subst (λ name. Contains (packed netlist).outputs (name, output.0.1)) output.2 output.1 in
          required_has fabric (packed netlist) fixed_pads implementation are legal Q along (packed_net (packed netlist) output.0.1) (begins (packed_net (packed netlist) output.0.1)) site kinds.Io 0 tile
          (output_shown listed among) (out_kind fabric (packed netlist) fixed_pads implementation legal port site listed) (omega arith) there

      out_bel : Q (bel_point site (codes "I"))
      out_bel = along _ _ (sources.shown_bel listed there) shown_wire

      out_bel_top : Q (bel_point site (codes "I_top"))
      out_bel_top = along _ _ (sources.shown_top listed) out_bel

      out_port : Q (port_point site (codes "I_top"))
      out_port = along _ _ (sources.shown_tile listed) out_bel_top

      out_top : Q (top_point site (codes "I_top"))
      out_top = along _ _ (sources.shown_outside listed) out_port

      out_pad_has : All Q (output_pad tile site)
      out_pad_has = each_all Q (output_pad tile site) (
        out_bel,
        (
          out_bel_top,
          (
            t_has port site out_either tile there out_wire,
            (
              t_top_has port site out_either tile there out_wire,
              (
                out_port,
                (
                  t_port_has port site out_either tile there out_wire,
                  (
                    shown_wire,
                    (
                      out_wire,
                      (
                        out_top,
                        (
                          t_outside_has port site out_either tile there out_wire,
                          tt,
                        ),
                      ),
                    ),
                  ),
                ),
              ),
            ),
          ),
        ),
      )

  pad_has : (p : Point) → IsPadPoint fabric implementation p → Q p
  pad_has p (design.of_input {port} {site} {tile} listed there among) = All-contains Q (input_pad tile site) p (in_pad_has port site tile there listed) among
  pad_has p (design.of_output {port} {site} {tile} listed there among) = All-contains Q (output_pad tile site) p (out_pad_has port site tile there listed) among

  -- each point with sources has it
  pub sourced_has : (p : Point) → IsSourced fabric (packed netlist) implementation p → Q p
  sourced_has p (inl is) = route_has p is
  sourced_has p (inr (inl is)) = cell_point_has p is
  sourced_has p (inr (inr is)) = pad_has p is
