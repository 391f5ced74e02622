-- Each design point shows its source.
use Rattle.std.proofs.Common.{◌≡◌, ℕ, ◌<◌, false, List, codes, length, refl, sym, ap, ◌∙◌, subst, arith, Option, Some, None, is_some, slice_get, Contains, lt-ltb}
use Rattle.std.proofs.lemmas.List.Elements.{All-contains}
use Rattle.fab_kinds.specs.declared.kind.Kind.TheVariants as kinds
use Rattle.fab_kinds.specs.Pins.{input_names, output_names, pin_names, bit_count}
use Rattle.fab_systems_laws.specs.Ternary.{known}
use Rattle.fab_syntax.specs.Plain.{PlainModule}
use Rattle.fab_meaning.specs.Points.{Point, point, module_at}
use Rattle.fab_meaning.specs.Settled.{Assignment}
use Rattle.fab_model.specs.declared.mode.Mode.{Mode}
use Rattle.fab_model.specs.Rows.{is_jump}
use Rattle.fab_model.specs.Tiles.{PlainTile, IsTile}
use Rattle.fab_model.specs.Wires.{dest_of}
use Rattle.fab_model.specs.Grid.{PlainFabric, tile_at, AreRows, AllRows}
use Rattle.fab_model.specs.Drive.{PlainBits}
use Rattle.fab_model.specs.Cascade.{PlacedRow, placed_row}
use Rattle.std.proofs.lemmas.List.Elements.{All-weaker}
use Rattle.fab_fabric.specs.Wires.{row_place}
use Rattle.fab_fabric.specs.Fabric.{IsFabric, AreTiles}
use Rattle.fab_fabric.specs.declared.wire.Site.{Site}
use Rattle.fab_netlist.specs.WellMade.{table_bit}
use Rattle.fab_netlist.specs.Packed.{PlainCell, PlainPacked}
use Rattle.fab_use_defs.specs.fab_implementation_Plain.{Pad, PlainImplementation}
use Rattle.fab_use_defs.specs.fab_implementation_OnFabric.{kind_at}
use Rattle.fab_use_defs.specs.fab_legal_WellMade.{IsWellMadeCell, IsWellMadePacked}
use Rattle.fab_use_defs.specs.fab_legal_Legal.{IsLegal}
use Rattle.fab_meaning.specs.Ports.{config_name}
use Rattle.fab_prim.specs.Ports.{top_name, top_inputs, top_outputs}
use Rattle.fab_prim.specs.Modules.{flip_flop_name, module_of_kind}
use Rattle.fab_use_defs.specs.fab_tile_drives_laws_Stands.{bel_path, wire_point}
use Rattle.fab_use_defs.proofs.fab_tile_drives_laws_Members.{contains_at}
use Rattle.fab_use_defs.specs.fab_drives_laws_Points.{place_path, row_path}
use Rattle.fab_use_defs.proofs.fab_drives_laws_Modules.{tile_of_types}
use Rattle.fab_use_defs.proofs.fab_drives_laws_Texts.{HasFabric}
use Rattle.fab_use_defs.proofs.fab_text_loads_laws_Carried.{carried}
use Rattle.fab_use_defs.specs.fab_fabric_text_defs_Mode.{text_mode}
use Rattle.fab_use_defs.specs.fab_fabric_text_defs_Texts.{IsFabricText}
use Rattle.fab_use_defs.specs.Sites.{site_path, bel_point, port_point, top_point, pin_point}
use Rattle.fab_use_defs.specs.Design.{IsTreeWire, IsBound}
use Rattle.fab_use_defs.specs.Configuring.{Configures, cell_bit}
use Rattle.fab_use_defs.specs.Sources as sources
use Rattle.fab_use_defs.specs.Sources.{Source, HasSource, index_points, output_source}
use Rattle.fab_use_defs.specs.Ways.{end_port}
use Rattle.fab_ternary_laws.specs.Shown.{Terns}
use Rattle.fab_points_laws.specs.Shown.{Shown}
use Rattle.fab_points_laws.specs.Known.{KnowsBits}
use Rattle.fab_points_laws.specs.Laws.{SourcesShow}
use Rattle.fab_points_laws.proofs.Matrix.{input_port_shown, output_wire_shown, output_port_shown}
use Rattle.fab_points_laws.proofs.Primitives.{x_shown, t_shown, q_shown, o_held, o_table, pad_o_shown, i_top_shown, t_top_shown}
use Rattle.fab_points_laws.proofs.Bels.{bel_stands, input_shown, output_shown, from_outside_shown, to_outside_shown}
use Rattle.fab_points_laws.proofs.Borders.{constant_shown, jump_shown, end_bit_shown, passing_shown, beginning_shown, into_shown, across_shown}
use Rattle.fab_points_laws.proofs.Pads.{outer_shown, comes_shown, leaves_shown}
use Rattle.fab_points_laws.proofs.Places.{tree_wire, index_wire, dest_few, placed_there, SiteBel, site_tile, site_bel, cell_kind, in_kind, out_kind, pad_kind, get_front}
use Rattle.fab_points_laws.proofs.Ways.{row_before, way_comes}

module _ (fabric : PlainFabric) (text : List PlainModule) (packed : PlainPacked) (fixed : List Pad) (implementation : PlainImplementation) (bits : PlainBits)
    (inputs held : Assignment) (t : Terns) (is : IsFabric fabric) (are : AreTiles fabric) (has : HasFabric fabric text) (made : IsWellMadePacked packed)
    (legal : IsLegal fabric packed fixed implementation) (configures : Configures fabric packed implementation bits) (knows : KnowsBits fabric bits t) where
  abbrev mode : Mode
  mode = text_mode fabric

  abbrev Shows : Point → Source → Type 0
  Shows p s = Shown text inputs held t p s

  tile_is : (x y : ℕ) (tile : PlainTile) → tile_at fabric x y ≡ Some tile → IsTile tile
  tile_is x y tile there = All-contains IsTile fabric.types tile are (tile_of_types fabric x y tile there)

  rows_are : AreRows fabric
  rows_are = All-weaker IsTile AllRows (λ tile is. is.rows) fabric.types are

  -- ---- ways

  end_bit_is : (x y row bit : ℕ) (tile : PlainTile) (here : PlacedRow) → IsTreeWire fabric implementation x y tile (dest_of row bit) →
      placed_row fabric (row_place x y row) ≡ Some here → is_jump here.row.dir ≡ false → Shows (wire_point (place_path x y) tile (dest_of row bit)) (sources.shows (end_port here bit))
  end_bit_is x y row bit tile here tree placed_is no_jump =
      let found = placed_there fabric x y row tile here tree.tile_is placed_is in
      let other : is_jump found.0.dir ≡ false = ap (λ (h : PlacedRow). is_jump h.row.dir) (sym found.2) ∙ no_jump in
      subst (λ h. Shows (wire_point (place_path x y) tile (dest_of row bit)) (sources.shows (end_port h bit))) (sym found.2)
      (end_bit_shown mode text (place_path x y) tile (tile_is x y tile tree.tile_is) (has.stands x y tile tree.tile_is) inputs held t row bit found.0 found.1
      (dest_few tile row bit found.0 (tree_wire fabric implementation x y tile (dest_of row bit) tree) found.1) other)

  -- ---- cells

  well : (number : ℕ) (site : Site) (cell : PlainCell) → IsBound packed implementation number site cell → IsWellMadeCell packed cell
  well number site cell bound = All-contains (IsWellMadeCell packed) packed.cells cell made.cells (number, bound.cell_is.0, bound.cell_is.1)

  module _ (number : ℕ) (site : Site) (cell : PlainCell) (bound : IsBound packed implementation number site cell) (tile : PlainTile) (there : tile_at fabric site.x site.y ≡ Some tile) where
    lut : SiteBel fabric site kinds.Lut4c tile
    lut = site_bel fabric site kinds.Lut4c tile (cell_kind fabric packed fixed implementation legal number site cell bound) there

    lut_stands : module_at text (bel_path (site_path site) site.bel) ≡ Some (module_of_kind kinds.Lut4c)
    lut_stands =
        bel_stands mode text (site_path site) tile (has.stands site.x site.y tile there) inputs held t site.bel lut.found lut.there
        ∙ ap (λ kind. Some (module_of_kind kind)) lut.kind_is

    lut_bit : (bit : ℕ) → bit < 19 → t (point (bel_path (site_path site) site.bel) config_name bit) ≡ known (cell_bit (is_some packed.reset) cell bit)
    lut_bit bit few =
        (knows site.x site.y tile there).bels site.bel bit lut.found lut.there (subst (λ kind. bit < bit_count kind) (sym lut.kind_is) few)
        ∙ ap known (configures.cells number bit site cell tile bound there few)

    lut_table : (place : ℕ) → place < 16 → t (point (bel_path (site_path site) site.bel) (codes "init") place) ≡ known (table_bit cell.table place)
    lut_table place few =
        let table_is : cell_bit (is_some packed.reset) cell place ≡ table_bit cell.table place = rw (lt-ltb place 16 few) refl in
        (knows site.x site.y tile there).tables site.bel place lut.found lut.there lut.kind_is few
        ∙ ap known (configures.cells number place site cell tile bound there (omega (arith, few)) ∙ table_is)

    index_is : Shows (bel_point site (codes "x")) (sources.shows (bel_point site (codes "I0")))
    index_is = x_shown text (bel_path (site_path site) site.bel) inputs held t lut_stands (lut_bit 17 (omega arith))

    table_is : Shows (bel_point site (codes "t")) (sources.looks_up cell.table (index_points site cell))
    table_is =
        let w = well number site cell bound in
        t_shown text (bel_path (site_path site) site.bel) inputs held t lut_stands cell.table (length cell.inputs) w.few_inputs w.repeats lut_table

    output_by : (latch : Option ℕ) → cell.latch ≡ latch → Shows (bel_point site (codes "O")) (output_source site latch)
    output_by None bare =
        o_table text (bel_path (site_path site) site.bel) inputs held t lut_stands (lut_bit 16 (omega arith) ∙ ap (λ latch. known (is_some latch)) bare)
    output_by (Some init) latched =
        o_held text (bel_path (site_path site) site.bel) inputs held t lut_stands (lut_bit 16 (omega arith) ∙ ap (λ latch. known (is_some latch)) latched)

    register_is : Shows (bel_point site flip_flop_name) sources.flip_flop
    register_is = q_shown text (bel_path (site_path site) site.bel) inputs held t lut_stands

    pin_is : (pin : ℕ) (name : List ℕ) → slice_get (input_names kinds.Lut4c) pin ≡ Some name → Shows (bel_point site name) (sources.shows (pin_point tile site pin))
    pin_is pin name at =
        let at_kind : slice_get (input_names lut.found.kind) pin ≡ Some name = subst (λ kind. slice_get (input_names kind) pin ≡ Some name) (sym lut.kind_is) at in
        input_shown mode text (site_path site) tile (has.stands site.x site.y tile there) inputs held t site.bel lut.found lut.there pin name
        (get_front (input_names lut.found.kind) (output_names lut.found.kind) pin name at_kind)
        (contains_at (input_names lut.found.kind) pin name at_kind)

    wire_is : Shows (pin_point tile site 7) (sources.shows (bel_point site (codes "O")))
    wire_is =
        output_shown mode text (site_path site) tile (has.stands site.x site.y tile there) inputs held t site.bel lut.found lut.there 7 (codes "O")
        (subst (λ kind. slice_get (pin_names kind) 7 ≡ Some (codes "O")) (sym lut.kind_is) refl)
        (subst (λ kind. Contains (output_names kind) (codes "O")) (sym lut.kind_is) (0, omega arith, refl))

  with_tile : (number : ℕ) (site : Site) (cell : PlainCell) (p : Point) (s : Source) (bound : IsBound packed implementation number site cell) →
      ((tile : PlainTile) → tile_at fabric site.x site.y ≡ Some tile → Shows p s) → Shows p s
  with_tile number site cell p s bound each = (let at = site_tile fabric site kinds.Lut4c (cell_kind fabric packed fixed implementation legal number site cell bound) in each at.0 at.1)

  -- ---- pads

  module _ (site : Site) (kind_is : kind_at fabric site ≡ Some kinds.Io) where
    -- of the tile that is there
    module _ (tile : PlainTile) (there : tile_at fabric site.x site.y ≡ Some tile) where
      pad : SiteBel fabric site kinds.Io tile
      pad = site_bel fabric site kinds.Io tile kind_is there

      pad_input : (pin : ℕ) (name : List ℕ) → slice_get (input_names kinds.Io) pin ≡ Some name → Shows (bel_point site name) (sources.shows (pin_point tile site pin))
      pad_input pin name at =
          let at_kind : slice_get (input_names pad.found.kind) pin ≡ Some name = subst (λ kind. slice_get (input_names kind) pin ≡ Some name) (sym pad.kind_is) at in
          input_shown mode text (site_path site) tile (has.stands site.x site.y tile there) inputs held t site.bel pad.found pad.there pin name
          (get_front (input_names pad.found.kind) (output_names pad.found.kind) pin name at_kind)
          (contains_at (input_names pad.found.kind) pin name at_kind)

      pad_wire : Shows (pin_point tile site 2) (sources.shows (bel_point site (codes "O")))
      pad_wire =
          output_shown mode text (site_path site) tile (has.stands site.x site.y tile there) inputs held t site.bel pad.found pad.there 2 (codes "O")
          (subst (λ kind. slice_get (pin_names kind) 2 ≡ Some (codes "O")) (sym pad.kind_is) refl)
          (subst (λ kind. Contains (output_names kind) (codes "O")) (sym pad.kind_is) (0, omega arith, refl))

      pad_stands : module_at text (bel_path (site_path site) site.bel) ≡ Some (module_of_kind kinds.Io)
      pad_stands =
          bel_stands mode text (site_path site) tile (has.stands site.x site.y tile there) inputs held t site.bel pad.found pad.there
          ∙ ap (λ kind. Some (module_of_kind kind)) pad.kind_is

      comes_in : Contains (top_inputs pad.found.kind) top_name
      comes_in = subst (λ kind. Contains (top_inputs kind) top_name) (sym pad.kind_is) (0, omega arith, refl)

      goes_out : (port : List ℕ) → Contains (top_outputs kinds.Io) port → Contains (top_outputs pad.found.kind) port
      goes_out port among = subst (λ kind. Contains (top_outputs kind) port) (sym pad.kind_is) among

      outer_is : Shows (top_point site top_name) sources.top_input
      outer_is = outer_shown fabric text is are has inputs held t site.x site.y tile site.bel pad.found there pad.there top_name comes_in

      tile_comes : Shows (port_point site top_name) (sources.shows (top_point site top_name))
      tile_comes = comes_shown fabric text is are has inputs held t site.x site.y tile site.bel pad.found there pad.there comes_in

      bel_comes : Shows (bel_point site top_name) (sources.shows (port_point site top_name))
      bel_comes = from_outside_shown mode text (site_path site) tile (has.stands site.x site.y tile there) inputs held t site.bel pad.found pad.there top_name comes_in

      tile_leaves : (port : List ℕ) → Contains (top_outputs kinds.Io) port → Shows (port_point site port) (sources.shows (bel_point site port))
      tile_leaves port among = to_outside_shown mode text (site_path site) tile (has.stands site.x site.y tile there) inputs held t site.bel pad.found pad.there port (goes_out port among)

      top_leaves : (port : List ℕ) → Contains (top_outputs kinds.Io) port → Shows (top_point site port) (sources.shows (port_point site port))
      top_leaves port among = leaves_shown fabric text is are has inputs held t site.x site.y tile site.bel pad.found there pad.there port (goes_out port among)

    at : (tile : PlainTile) × (tile_at fabric site.x site.y ≡ Some tile)
    at = site_tile fabric site kinds.Io kind_is

  i_top_there : Contains (top_outputs kinds.Io) (codes "I_top")
  i_top_there = (0, omega arith, refl)

  t_top_there : Contains (top_outputs kinds.Io) (codes "T_top")
  t_top_there = (1, omega arith, refl)

  -- ---- all of them

  pub source_shown : (p : Point) (s : Source) → HasSource fabric packed implementation p s → Shows p s
  source_shown p s (sources.of_output {x} {y} {tile} {plain} tree output) =
      output_wire_shown mode text (place_path x y) tile (tile_is x y tile tree.tile_is) (has.stands x y tile tree.tile_is) inputs held t plain
      (tree_wire fabric implementation x y tile plain tree) output
  source_shown p s (sources.of_edge {tree} {edge} {x} {y} {tile} {output} {input} listed among there to output_is from) =
      output_port_shown mode text (place_path x y) tile (tile_is x y tile there) (has.stands x y tile there) inputs held t output
      (index_wire fabric edge.1.0 x y output tile to there) output_is (bits x y) (knows x y tile there) input
      (configures.edges tree edge x y tile output input listed among there to output_is from)
  source_shown p s (sources.of_input {x} {y} {tile} {plain} tree no_output some) =
      input_port_shown mode text (place_path x y) tile (tile_is x y tile tree.tile_is) (has.stands x y tile tree.tile_is) inputs held t plain
      (tree_wire fabric implementation x y tile plain tree) no_output some
  source_shown p s (sources.constant_bit {x} {y} {row} {bit} {tile} {found} tree there jump bare) =
      constant_shown mode text (place_path x y) tile (tile_is x y tile tree.tile_is) (has.stands x y tile tree.tile_is) inputs held t row bit found there
      (dest_few tile row bit found (tree_wire fabric implementation x y tile (dest_of row bit) tree) there) jump bare
  source_shown p s (sources.jump_bit {x} {y} {row} {bit} {tile} {found} tree there jump named) =
      jump_shown mode text (place_path x y) tile (tile_is x y tile tree.tile_is) (has.stands x y tile tree.tile_is) inputs held t row bit found there
      (dest_few tile row bit found (tree_wire fabric implementation x y tile (dest_of row bit) tree) there) jump named
  source_shown p s (sources.end_bit {x} {y} {row} {bit} {tile} {here} tree placed_is no_jump) = end_bit_is x y row bit tile here tree placed_is no_jump
  source_shown p s (sources.into {at} {previous} {at_bit} way previous_is) =
      let c = way_comes fabric rows_are implementation at at_bit way in
      let b = row_before fabric rows_are at previous at_bit c previous_is in
      into_shown fabric text has rows_are inputs held t at previous at_bit c.placed c.no_jump c.few previous_is b.few_source b.placed b.no_jump
  source_shown p s (sources.across {at} {previous} {at_bit} way previous_is) =
      let b = row_before fabric rows_are at previous at_bit (way_comes fabric rows_are implementation at at_bit way) previous_is in
      across_shown fabric text has rows_are inputs held t previous at_bit b.placed b.no_jump b.few_source
  source_shown p s (sources.passing_on {at} {previous} {at_bit} way previous_is passes) =
      let b = row_before fabric rows_are at previous at_bit (way_comes fabric rows_are implementation at at_bit way) previous_is in
      passing_shown mode text (row_path previous) previous.tile (tile_is previous.place.x previous.place.y previous.tile b.placed.tile_is)
      (has.stands previous.place.x previous.place.y previous.tile b.placed.tile_is) inputs held t previous.place.row at_bit previous.row b.placed.row_is b.no_jump b.named passes
  source_shown p s (sources.beginning {at} {previous} {at_bit} m way previous_is number) =
      let b = row_before fabric rows_are at previous at_bit (way_comes fabric rows_are implementation at at_bit way) previous_is in
      beginning_shown mode text (row_path previous) previous.tile (tile_is previous.place.x previous.place.y previous.tile b.placed.tile_is)
      (has.stands previous.place.x previous.place.y previous.tile b.placed.tile_is) inputs held t previous.place.row at_bit previous.row b.placed.row_is m b.no_jump b.named b.few number
  source_shown p s (sources.cell_wire {cell_number} {site} {cell} {tile} bound tree) = wire_is cell_number site cell bound tile tree.tile_is
  source_shown p s (sources.cell_input {cell_number} {site} {cell} {tile} {name} pin bound there few at) = pin_is cell_number site cell bound tile there pin name at
  source_shown p s (sources.cell_reset {cell_number} {init} {site} {cell} {tile} bound there latched) = pin_is cell_number site cell bound tile there 5 (codes "SR") refl
  source_shown p s (sources.cell_enable {cell_number} {init} {site} {cell} {tile} bound there latched) = pin_is cell_number site cell bound tile there 6 (codes "EN") refl
  source_shown p s (sources.cell_index {cell_number} {site} {cell} bound some) = with_tile cell_number site cell p s bound (index_is cell_number site cell bound)
  source_shown p s (sources.cell_table {cell_number} {site} {cell} bound) = with_tile cell_number site cell p s bound (table_is cell_number site cell bound)
  source_shown p s (sources.cell_output {cell_number} {site} {cell} bound) =
      with_tile cell_number site cell p s bound (λ tile there. output_by cell_number site cell bound tile there cell.latch refl)
  source_shown p s (sources.cell_register {cell_number} {init} {site} {cell} bound latched) = with_tile cell_number site cell p s bound (register_is cell_number site cell bound)
  source_shown p s (sources.pad_top {port} {site} listed) = (let k = in_kind fabric packed fixed implementation legal port site listed in outer_is site k (at site k).0 (at site k).1)
  source_shown p s (sources.pad_tile {port} {site} listed) = (let k = in_kind fabric packed fixed implementation legal port site listed in tile_comes site k (at site k).0 (at site k).1)
  source_shown p s (sources.pad_bel {port} {site} listed) = (let k = in_kind fabric packed fixed implementation legal port site listed in bel_comes site k (at site k).0 (at site k).1)
  source_shown p s (sources.pad_output {port} {site} listed) =
      (let k = in_kind fabric packed fixed implementation legal port site listed in pad_o_shown text (bel_path (site_path site) site.bel) inputs held t (pad_stands site k (at site k).0 (at site k).1))
  source_shown p s (sources.pad_wire {port} {site} {tile} listed there) = pad_wire site (in_kind fabric packed fixed implementation legal port site listed) tile there
  source_shown p s (sources.shown_bel {port} {site} {tile} listed there) = pad_input site (out_kind fabric packed fixed implementation legal port site listed) tile there 0 (codes "I") refl
  source_shown p s (sources.shown_top {port} {site} listed) =
      (let k = out_kind fabric packed fixed implementation legal port site listed in i_top_shown text (bel_path (site_path site) site.bel) inputs held t (pad_stands site k (at site k).0 (at site k).1))
  source_shown p s (sources.shown_tile {port} {site} listed) = (let k = out_kind fabric packed fixed implementation legal port site listed in tile_leaves site k (at site k).0 (at site k).1 (codes "I_top") i_top_there)
  source_shown p s (sources.shown_outside {port} {site} listed) = (let k = out_kind fabric packed fixed implementation legal port site listed in top_leaves site k (at site k).0 (at site k).1 (codes "I_top") i_top_there)
  source_shown p s (sources.turned_bel {port} {site} {tile} listed there) = pad_input site (pad_kind fabric packed fixed implementation legal port site listed) tile there 1 (codes "T") refl
  source_shown p s (sources.turned_top {port} {site} listed) =
      (let k = pad_kind fabric packed fixed implementation legal port site listed in t_top_shown text (bel_path (site_path site) site.bel) inputs held t (pad_stands site k (at site k).0 (at site k).1))
  source_shown p s (sources.turned_tile {port} {site} listed) = (let k = pad_kind fabric packed fixed implementation legal port site listed in tile_leaves site k (at site k).0 (at site k).1 (codes "T_top") t_top_there)
  source_shown p s (sources.turned_outside {port} {site} listed) = (let k = pad_kind fabric packed fixed implementation legal port site listed in top_leaves site k (at site k).0 (at site k).1 (codes "T_top") t_top_there)

-- a text of a fabric has its tiles
pub has_fabric : (fabric : PlainFabric) (text : List PlainModule) → IsFabric fabric → IsFabricText fabric text → HasFabric fabric text
has_fabric fabric text is is_text = (carried fabric text is is_text).tiles

pub sources_show : SourcesShow
sources_show fabric text packed fixed implementation bits inputs held t is are is_text made legal configures knows p s source =
    source_shown fabric text packed fixed implementation bits inputs held t is are (has_fabric fabric text is is_text) made legal configures knows p s source
