-- Each point that has a source is declared.
use Rattle.std.proofs.Common.{◌≡◌, ℕ, ◌<◌, true, false, List, [], ◌∷◌, ◌++◌, codes, length, map, refl, sym, ap, ◌∙◌, subst, inl, inr, arith, Some, slice_get, All, Contains}
use Rattle.std.specs.List.{flat_map, enumerate_from}
use Rattle.std.specs.Option.{option_map_or}
use Rattle.std.proofs.lemmas.Bool.{cases_Bool}
use Rattle.std.proofs.lemmas.List.Elements.{All-cons, All-append, All-map, All-weaker, Contains-append_right}
use Rattle.fab_kinds.specs.declared.kind.Kind.{Kind}
use Rattle.fab_kinds.specs.declared.kind.Kind.TheVariants as kinds
use Rattle.fab_kinds.specs.Pins.{input_names, pin_names}
use Rattle.fab_syntax.specs.declared.tree.Port.{Port}
use Rattle.fab_syntax.specs.Plain.{PlainModule}
use Rattle.fab_meaning.specs.Points.{Point, point, module_at}
use Rattle.fab_meaning.specs.Reads.{is_declared}
use Rattle.fab_meaning.specs.Runs.{user_clock_name, clock_name}
use Rattle.fab_meaning.proofs.Modules.{each_all}
use Rattle.fab_meaning.specs.Ports.{scalar}
use Rattle.fab_model.specs.declared.mode.Mode.{Mode}
use Rattle.fab_model.specs.declared.mode.Mode.TheVariants as modes
use Rattle.fab_model.specs.declared.tiles.WireRow.{WireRow}
use Rattle.fab_model.specs.declared.tiles.Bel.{Bel}
use Rattle.fab_model.specs.Tiles.{PlainTile, wire_name, is_matrix_output, IsTile}
use Rattle.fab_model.specs.Wires.{PlainWire, dest_of, pin_of, pin_count, wire_number, IsWire}
use Rattle.fab_model.specs.Grid.{PlainFabric, tile_at, AreRows, AllRows}
use Rattle.fab_model.specs.Cascade.{PlacedRow, previous_row}
use Rattle.fab_model.proofs.Wires.{wire_at_number}
use Rattle.fab_fabric.specs.Fabric.{AreTiles}
use Rattle.fab_fabric.specs.declared.wire.Site.{Site}
use Rattle.fab_netlist.specs.Packed.{PlainCell, PlainPacked}
use Rattle.fab_use_defs.specs.fab_implementation_Plain.{Pad, PlainImplementation}
use Rattle.fab_use_defs.specs.fab_implementation_OnFabric.{kind_at}
use Rattle.fab_use_defs.specs.fab_legal_Legal.{IsLegal}
use Rattle.fab_prim.specs.Ports.{top_name, top_inputs, top_outputs}
use Rattle.fab_prim.specs.Modules.{flip_flop_name, module_of_kind}
use Rattle.fab_use_defs.specs.fab_gen_tile_Names.{begin_name, end_name, pad_name, matrix_instance_name}
use Rattle.fab_use_defs.specs.fab_gen_tile_Borders.{border_ports}
use Rattle.fab_use_defs.specs.fab_gen_tile_ConfigModule.{chain_ports, config_ports, frame_ports}
use Rattle.fab_use_defs.specs.fab_gen_tile_TileModule.{is_on_side, pad_ports, bels_ports, tile_ports, tile_items, tile_module, matrix_input_names, matrix_output_names}
use Rattle.fab_use_defs.specs.fab_gen_tile_MatrixModule.{matrix_module, numbered_outputs}
use Rattle.fab_meaning.specs.Loading.{write_strobe_name}
use Rattle.fab_use_defs.specs.fab_fabric_text_defs_Mode.{text_mode}
use Rattle.fab_use_defs.specs.fab_fabric_text_defs_Names.{pad_port_name, begin_wire_name}
use Rattle.fab_use_defs.specs.fab_fabric_text_defs_Places.{PlacedTile, placed_tiles}
use Rattle.fab_use_defs.specs.fab_fabric_text_defs_Top as top
use Rattle.fab_use_defs.specs.fab_fabric_text_defs_Top.{data_port, tile_pads, top_ports, top_items, top_module}
use Rattle.fab_use_defs.specs.fab_tile_drives_laws_Stands.{matrix_path, bel_path, name_of, wire_point}
use Rattle.fab_use_defs.proofs.fab_tile_drives_laws_Endings.{all_flat_map}
use Rattle.fab_use_defs.proofs.fab_tile_drives_laws_Members.{contains_at, contains_map}
use Rattle.fab_use_defs.proofs.fab_tile_drives_laws_Modes.{each_mode}
use Rattle.fab_use_defs.proofs.fab_tile_drives_laws_Widths.{IsWide, wide_port}
use Rattle.fab_use_defs.proofs.fab_tile_drives_laws_TileNames.{name_wide, end_wide, begin_wide, top_wide}
use Rattle.fab_use_defs.proofs.fab_tile_drives_laws_TileItems.{matrix_found}
use Rattle.fab_use_defs.proofs.fab_tile_drives_laws_Driven.{width_of, declared_at}
use Rattle.fab_use_defs.proofs.fab_tile_drives_laws_WireNames.{at_number, name_there}
use Rattle.fab_use_defs.proofs.fab_tile_drives_laws_BitValues.{inside}
use Rattle.fab_use_defs.proofs.fab_tile_drives_laws_PinPorts.{first_width}
use Rattle.fab_use_defs.proofs.fab_tile_drives_laws_MatrixPorts.{side_there, output_there, output_wide}
use Rattle.fab_use_defs.specs.fab_drives_laws_Points.{place_path, row_path}
use Rattle.fab_use_defs.proofs.fab_drives_laws_Lists.{contains_flat, contains_numbered, all_of}
use Rattle.fab_use_defs.proofs.fab_drives_laws_Places.{placed_tile, tile_is_placed}
use Rattle.fab_use_defs.proofs.fab_drives_laws_Texts.{HasFabric}
use Rattle.fab_use_defs.proofs.fab_drives_laws_TopNames.{pad_port_has_bits, begin_wire_has_bits}
use Rattle.fab_use_defs.specs.Sites.{site_path, bel_point, port_point, top_point, pin_point}
use Rattle.fab_use_defs.specs.Design.{IsBound}
use Rattle.fab_use_defs.specs.Sources as sources
use Rattle.fab_use_defs.specs.Sources.{Source, HasSource}
use Rattle.fab_use_defs.specs.Ways.{IsTreeWay, end_port, begin_port, begin_wire}
use Rattle.fab_points_laws.proofs.Bels.{bel_stands}
use Rattle.fab_points_laws.proofs.Pads.{all_border_ports, all_pad_ports, outside_port}
use Rattle.fab_systems_laws.specs.Ternary.{no}
use Rattle.fab_meaning.specs.Settled.{Assignment}
use Rattle.fab_model.proofs.Crossings.{placed}
use Rattle.fab_ternary_laws.specs.Shown.{Terns}
use Rattle.fab_points_laws.proofs.Ways.{row_before, way_comes}
use Rattle.fab_points_laws.proofs.Places.{tree_wire, index_wire, outputs_there, SiteBel, site_tile, site_bel, cell_kind, in_kind, out_kind, pad_kind}

-- ---- ports are wide

wide_config : (mode : Mode) → All IsWide (config_ports mode)
wide_config =
    each_mode IsWide (each_all IsWide frame_ports (omega arith, (omega arith, tt))) (each_all IsWide chain_ports (omega arith, (omega arith, (omega arith, (omega arith, tt)))))

wide_tile : (mode : Mode) (tile : PlainTile) → All IsWide (tile_ports mode tile)
wide_tile mode tile =
    let P : Port → Type 0 = IsWide in
    let borders = flat_map border_ports tile.rows in
    let pads = bels_ports tile.bels in
    All-cons P (scalar true user_clock_name) (config_ports mode ++ (borders ++ pads)) (omega arith)
    (All-append P (config_ports mode) (borders ++ pads) (wide_config mode)
    (All-append P borders pads
    (all_flat_map P border_ports tile.rows (all_of (λ (row : WireRow). All P (border_ports row)) tile.rows (all_border_ports P (λ row bit. omega arith) (λ row bit. omega arith))))
    (all_flat_map P (λ (placed : ℕ × Bel). pad_ports placed.0 placed.1.kind) (enumerate_from 0 tile.bels)
    (all_of (λ (placed : ℕ × Bel). All P (pad_ports placed.0 placed.1.kind)) (enumerate_from 0 tile.bels)
    (λ placed. all_pad_ports P (λ bel. omega arith) (λ bel. omega arith) (λ bel. omega arith) placed.0 placed.1.kind)))))

outside_wide : (mode : Mode) (tile : PlainTile) (number : ℕ) (bel : Bel) (port : List ℕ) → slice_get tile.bels number ≡ Some bel → Contains (top_outputs bel.kind) port →
    0 < width_of (tile_module mode tile) (pad_name number port)
outside_wide mode tile number bel port stands is_pad =
    wide_port (tile_ports mode tile) (tile_items mode tile) (scalar false (pad_name number port)) (wide_tile mode tile) (outside_port mode tile number bel stands port is_pad)

wide_pads : (x y : ℕ) (placed : ℕ × Bel) → All IsWide (top.pad_ports x y placed)
wide_pads x y placed =
    let kind = placed.1.kind in
    let in_port = λ (port : List ℕ). scalar true (pad_port_name x y placed.0 port) in
    let out_port = λ (port : List ℕ). scalar false (pad_port_name x y placed.0 port) in
    All-append IsWide (map in_port (top_inputs kind)) (map out_port (top_outputs kind))
    (All-map IsWide in_port (top_inputs kind) (all_of (λ (port : List ℕ). IsWide (in_port port)) (top_inputs kind) (λ port. omega arith)))
    (All-map IsWide out_port (top_outputs kind) (all_of (λ (port : List ℕ). IsWide (out_port port)) (top_outputs kind) (λ port. omega arith)))

wide_data : (mode : Mode) → IsWide (data_port mode)
wide_data modes.Frames = omega arith
wide_data modes.Chain = omega arith

wide_top : (fabric : PlainFabric) → All IsWide (top_ports fabric)
wide_top fabric =
    let pads = flat_map tile_pads (placed_tiles fabric) in
    let front : List Port = scalar true clock_name ∷ scalar true user_clock_name ∷ scalar true write_strobe_name ∷ data_port (text_mode fabric) ∷ [] in
    All-append IsWide front pads (each_all IsWide front (omega arith, (omega arith, (omega arith, (wide_data (text_mode fabric), tt)))))
    (all_flat_map IsWide tile_pads (placed_tiles fabric)
    (all_of (λ (p : PlacedTile). All IsWide (tile_pads p)) (placed_tiles fabric) (λ p.
    all_flat_map IsWide (top.pad_ports p.x p.y) (enumerate_from 0 p.tile.bels)
    (all_of (λ (placed : ℕ × Bel). All IsWide (top.pad_ports p.x p.y placed)) (enumerate_from 0 p.tile.bels) (wide_pads p.x p.y)))))

leaving_wide : (fabric : PlainFabric) (x y : ℕ) (tile : PlainTile) (number : ℕ) (bel : Bel) (port : List ℕ) → tile_at fabric x y ≡ Some tile → slice_get tile.bels number ≡ Some bel →
    Contains (top_outputs bel.kind) port → 0 < width_of (top_module fabric) (pad_port_name x y number port)
leaving_wide fabric x y tile number bel port there stands is_pad =
    let one = scalar false (pad_port_name x y number port) in
    let placed : ℕ × Bel = (number, bel) in
    let front : List Port = scalar true clock_name ∷ scalar true user_clock_name ∷ scalar true write_strobe_name ∷ data_port (text_mode fabric) ∷ [] in
    let in_port = λ (name : List ℕ). scalar true (pad_port_name x y number name) in
    let out_port = λ (name : List ℕ). scalar false (pad_port_name x y number name) in
    wide_port (top_ports fabric) (top_items fabric) one (wide_top fabric)
    (Contains-append_right front (flat_map tile_pads (placed_tiles fabric)) one
    (contains_flat tile_pads (placed_tiles fabric) (placed_tile x y tile) one (tile_is_placed fabric x y tile there)
    (contains_flat (top.pad_ports x y) (enumerate_from 0 tile.bels) placed one (contains_numbered tile.bels number bel stands)
    (Contains-append_right (map in_port (top_inputs bel.kind)) (map out_port (top_outputs bel.kind)) one (contains_map out_port (top_outputs bel.kind) port is_pad)))))

-- ---- points

abbrev nothing : Assignment
nothing p = false

abbrev unsaid : Terns
unsaid p = no

module _ (fabric : PlainFabric) (text : List PlainModule) (packed : PlainPacked) (fixed : List Pad) (implementation : PlainImplementation) (are : AreTiles fabric) (has : HasFabric fabric text)
    (legal : IsLegal fabric packed fixed implementation) where
  abbrev Is : Point → Type 0
  Is p = is_declared text p ≡ true

  rows_are : AreRows fabric
  rows_are = All-weaker IsTile AllRows (λ tile is. is.rows) fabric.types are

  -- ---- tiles

  wire_declared : (x y : ℕ) (tile : PlainTile) (plain : PlainWire) → tile_at fabric x y ≡ Some tile → IsWire tile plain → Is (wire_point (place_path x y) tile plain)
  wire_declared x y tile plain there exists =
      declared_at text (place_path x y) (tile_module (text_mode fabric) tile) (name_of tile plain) 0 (has.stands x y tile there).tile_is (name_wide (text_mode fabric) tile (name_of tile plain) (name_there tile plain exists))

  port_declared : (x y : ℕ) (tile : PlainTile) (plain : PlainWire) → tile_at fabric x y ≡ Some tile → IsWire tile plain → 0 < length (matrix_output_names tile) →
      Is (point (matrix_path (place_path x y)) (name_of tile plain) 0)
  port_declared x y tile plain there exists some =
      let stands = has.stands x y tile there in
      let inner = matrix_module tile in
      let here : module_at text (matrix_path (place_path x y)) ≡ Some inner = inside (text_mode fabric) text (place_path x y) tile matrix_instance_name _ inner stands.tile_is (matrix_found (text_mode fabric) tile some) (stands.matrix_is some) in
      let place = wire_number tile plain in
      let at = at_number tile plain place (wire_at_number tile plain exists) in
      let name_is : name_of tile plain ≡ wire_name at.found = ap (λ found. option_map_or wire_name found []) at.is in
      declared_at text (matrix_path (place_path x y)) inner (name_of tile plain) 0 here (elim (cases_Bool (is_matrix_output at.found)) [
        | inl output ↦ output_wide tile (place, name_of tile plain) (subst (λ n. Contains (numbered_outputs tile) (place, n)) (sym name_is) (output_there tile place at.found at.there output))
        | inr input ↦ (
            let side : is_on_side false at.found ≡ true = rw input refl in
            let one : width_of inner (name_of tile plain) ≡ 1 =
            first_width (matrix_input_names tile) _ inner.items (name_of tile plain) (subst (Contains (matrix_input_names tile)) (sym name_is) (side_there false tile place at.found at.there side)) in
            omega arith)
      ])

  -- ---- ways

  end_declared : (at : PlacedRow) (n : ℕ) → IsTreeWay fabric implementation at n → Is (end_port at n)
  end_declared at n way =
      let c = way_comes fabric rows_are implementation at n way in
      declared_at text (row_path at) (tile_module (text_mode fabric) at.tile) (end_name at.row n) 0 (has.stands at.place.x at.place.y at.tile c.placed.tile_is).tile_is
      (end_wide (text_mode fabric) at.tile at.place.row n at.row c.placed.row_is c.no_jump c.few)

  begin_declared : (at previous : PlacedRow) (n : ℕ) → IsTreeWay fabric implementation at n → previous_row fabric at ≡ Some previous → Is (begin_port previous n)
  begin_declared at previous n way is =
      let b = row_before fabric rows_are at previous n (way_comes fabric rows_are implementation at n way) is in
      declared_at text (row_path previous) (tile_module (text_mode fabric) previous.tile) (begin_name previous.row n) 0 (has.stands previous.place.x previous.place.y previous.tile b.placed.tile_is).tile_is
      (begin_wide (text_mode fabric) previous.tile previous.place.row n previous.row b.placed.row_is b.no_jump b.few_source)

  across_declared : (at previous : PlacedRow) (n : ℕ) → IsTreeWay fabric implementation at n → previous_row fabric at ≡ Some previous → Is (begin_wire previous n)
  across_declared at previous n way is =
      let b = row_before fabric rows_are at previous n (way_comes fabric rows_are implementation at n way) is in
      declared_at text [] (top_module fabric) (begin_wire_name previous.place.x previous.place.y previous.row n) 0 has.top_is
      (begin_wire_has_bits fabric previous.place.x previous.place.y previous.tile previous.place.row previous.row n b.placed.tile_is b.placed.row_is b.no_jump b.few_source)

  -- ---- sites

  module _ (site : Site) (kind : Kind) (kind_is : kind_at fabric site ≡ Some kind) where
    module _ (tile : PlainTile) (there : tile_at fabric site.x site.y ≡ Some tile) where
      bel : SiteBel fabric site kind tile
      bel = site_bel fabric site kind tile kind_is there

      bel_declared : (name : List ℕ) → 0 < width_of (module_of_kind kind) name → Is (bel_point site name)
      bel_declared name wide =
          declared_at text (bel_path (site_path site) site.bel) (module_of_kind kind) name 0
          (bel_stands (text_mode fabric) text (site_path site) tile (has.stands site.x site.y tile there) nothing nothing unsaid site.bel bel.found bel.there ∙ ap (λ kind. Some (module_of_kind kind)) bel.kind_is) wide

      pin_declared : (pin : ℕ) → pin < length (pin_names kind) → Is (pin_point tile site pin)
      pin_declared pin few =
          let enough : pin < length (pin_names bel.found.kind) = subst (λ k. pin < length (pin_names k)) (sym bel.kind_is) few in
          wire_declared site.x site.y tile (pin_of site.bel pin) there (subst (λ o. pin < option_map_or pin_count o 0) (sym bel.there) enough)

      input_declared : (name : List ℕ) → Contains (input_names kind) name → Is (bel_point site name)
      input_declared name among =
          let one : width_of (module_of_kind kind) name ≡ 1 = first_width (input_names kind) _ (module_of_kind kind).items name among in
          bel_declared name (omega arith)

      entering : Contains (top_inputs kind) top_name → Is (port_point site top_name) × Is (top_point site top_name)
      entering is_pad =
          let among : Contains (top_inputs bel.found.kind) top_name = subst (λ k. Contains (top_inputs k) top_name) (sym bel.kind_is) is_pad in (
            declared_at text (site_path site) (tile_module (text_mode fabric) tile) (pad_name site.bel top_name) 0 (has.stands site.x site.y tile there).tile_is (top_wide (text_mode fabric) tile site.bel bel.found top_name bel.there among),
            declared_at text [] (top_module fabric) (pad_port_name site.x site.y site.bel top_name) 0 has.top_is (pad_port_has_bits fabric site.x site.y tile site.bel bel.found there bel.there among),
          )

      leaving : (port : List ℕ) → Contains (top_outputs kind) port → Is (port_point site port) × Is (top_point site port)
      leaving port is_pad =
          let among : Contains (top_outputs bel.found.kind) port = subst (λ k. Contains (top_outputs k) port) (sym bel.kind_is) is_pad in (
            declared_at text (site_path site) (tile_module (text_mode fabric) tile) (pad_name site.bel port) 0 (has.stands site.x site.y tile there).tile_is (outside_wide (text_mode fabric) tile site.bel bel.found port bel.there among),
            declared_at text [] (top_module fabric) (pad_port_name site.x site.y site.bel port) 0 has.top_is (leaving_wide fabric site.x site.y tile site.bel bel.found port there bel.there among),
          )

    at : (tile : PlainTile) × (tile_at fabric site.x site.y ≡ Some tile)
    at = site_tile fabric site kind kind_is

  lut_declared : (number : ℕ) (site : Site) (cell : PlainCell) (name : List ℕ) → IsBound packed implementation number site cell → 0 < width_of (module_of_kind kinds.Lut4c) name → Is (bel_point site name)
  lut_declared number site cell name bound wide =
      let k = cell_kind fabric packed fixed implementation legal number site cell bound in
      let a = at site kinds.Lut4c k in
      bel_declared site kinds.Lut4c k a.0 a.1 name wide

  pad_declared : (site : Site) (name : List ℕ) → kind_at fabric site ≡ Some kinds.Io → 0 < width_of (module_of_kind kinds.Io) name → Is (bel_point site name)
  pad_declared site name k wide = (let a = at site kinds.Io k in bel_declared site kinds.Io k a.0 a.1 name wide)

  leaves : (site : Site) (port : List ℕ) → kind_at fabric site ≡ Some kinds.Io → Contains (top_outputs kinds.Io) port → Is (port_point site port) × Is (top_point site port)
  leaves site port k among = (let a = at site kinds.Io k in leaving site kinds.Io k a.0 a.1 port among)

  enters : (site : Site) → kind_at fabric site ≡ Some kinds.Io → Is (port_point site top_name) × Is (top_point site top_name)
  enters site k = (let a = at site kinds.Io k in entering site kinds.Io k a.0 a.1 (0, omega arith, refl))

  pub source_declared : (p : Point) (s : Source) → HasSource fabric packed implementation p s → Is p
  source_declared p s (sources.of_output {x} {y} {tile} {plain} tree output) = wire_declared x y tile plain tree.tile_is (tree_wire fabric implementation x y tile plain tree)
  source_declared p s (sources.of_edge {tree} {edge} {x} {y} {tile} {output} {input} listed among there to output_is from) = (let exists = index_wire fabric edge.1.0 x y output tile to there in port_declared x y tile output there exists (outputs_there tile output exists output_is))
  source_declared p s (sources.of_input {x} {y} {tile} {plain} tree no_output some) = port_declared x y tile plain tree.tile_is (tree_wire fabric implementation x y tile plain tree) some
  source_declared p s (sources.constant_bit {x} {y} {row} {bit} {tile} {found} tree there jump bare) = wire_declared x y tile (dest_of row bit) tree.tile_is (tree_wire fabric implementation x y tile (dest_of row bit) tree)
  source_declared p s (sources.jump_bit {x} {y} {row} {bit} {tile} {found} tree there jump named) = wire_declared x y tile (dest_of row bit) tree.tile_is (tree_wire fabric implementation x y tile (dest_of row bit) tree)
  source_declared p s (sources.end_bit {x} {y} {row} {bit} {tile} {here} tree placed_is no_jump) = wire_declared x y tile (dest_of row bit) tree.tile_is (tree_wire fabric implementation x y tile (dest_of row bit) tree)
  source_declared p s (sources.into {at} {previous} {at_bit} way is) = end_declared at at_bit way
  source_declared p s (sources.across {at} {previous} {at_bit} way is) = across_declared at previous at_bit way is
  source_declared p s (sources.passing_on {at} {previous} {at_bit} way is few) = begin_declared at previous at_bit way is
  source_declared p s (sources.beginning {at} {previous} {at_bit} m way is number) = begin_declared at previous at_bit way is
  source_declared p s (sources.cell_wire {cell_number} {site} {cell} {tile} bound tree) = pin_declared site kinds.Lut4c (cell_kind fabric packed fixed implementation legal cell_number site cell bound) tile tree.tile_is 7 (omega arith)
  source_declared p s (sources.cell_input {cell_number} {site} {cell} {tile} {name} pin bound there few at) = input_declared site kinds.Lut4c (cell_kind fabric packed fixed implementation legal cell_number site cell bound) tile there name (contains_at (input_names kinds.Lut4c) pin name at)
  source_declared p s (sources.cell_reset {cell_number} {init} {site} {cell} {tile} bound there latched) = lut_declared cell_number site cell (codes "SR") bound (omega arith)
  source_declared p s (sources.cell_enable {cell_number} {init} {site} {cell} {tile} bound there latched) = lut_declared cell_number site cell (codes "EN") bound (omega arith)
  source_declared p s (sources.cell_index {cell_number} {site} {cell} bound some) = lut_declared cell_number site cell (codes "x") bound (omega arith)
  source_declared p s (sources.cell_table {cell_number} {site} {cell} bound) = lut_declared cell_number site cell (codes "t") bound (omega arith)
  source_declared p s (sources.cell_output {cell_number} {site} {cell} bound) = lut_declared cell_number site cell (codes "O") bound (omega arith)
  source_declared p s (sources.cell_register {cell_number} {init} {site} {cell} bound latched) = lut_declared cell_number site cell flip_flop_name bound (omega arith)
  source_declared p s (sources.pad_top {port} {site} listed) = (enters site (in_kind fabric packed fixed implementation legal port site listed)).1
  source_declared p s (sources.pad_tile {port} {site} listed) = (enters site (in_kind fabric packed fixed implementation legal port site listed)).0
  source_declared p s (sources.pad_bel {port} {site} listed) = pad_declared site top_name (in_kind fabric packed fixed implementation legal port site listed) (omega arith)
  source_declared p s (sources.pad_output {port} {site} listed) = pad_declared site (codes "O") (in_kind fabric packed fixed implementation legal port site listed) (omega arith)
  source_declared p s (sources.pad_wire {port} {site} {tile} listed there) = pin_declared site kinds.Io (in_kind fabric packed fixed implementation legal port site listed) tile there 2 (omega arith)
  source_declared p s (sources.shown_bel {port} {site} {tile} listed there) = pad_declared site (codes "I") (out_kind fabric packed fixed implementation legal port site listed) (omega arith)
  source_declared p s (sources.shown_top {port} {site} listed) = pad_declared site (codes "I_top") (out_kind fabric packed fixed implementation legal port site listed) (omega arith)
  source_declared p s (sources.shown_tile {port} {site} listed) = (leaves site (codes "I_top") (out_kind fabric packed fixed implementation legal port site listed) (0, omega arith, refl)).0
  source_declared p s (sources.shown_outside {port} {site} listed) = (leaves site (codes "I_top") (out_kind fabric packed fixed implementation legal port site listed) (0, omega arith, refl)).1
  source_declared p s (sources.turned_bel {port} {site} {tile} listed there) = pad_declared site (codes "T") (pad_kind fabric packed fixed implementation legal port site listed) (omega arith)
  source_declared p s (sources.turned_top {port} {site} listed) = pad_declared site (codes "T_top") (pad_kind fabric packed fixed implementation legal port site listed) (omega arith)
  source_declared p s (sources.turned_tile {port} {site} listed) = (leaves site (codes "T_top") (pad_kind fabric packed fixed implementation legal port site listed) (1, omega arith, refl)).0
  source_declared p s (sources.turned_outside {port} {site} listed) = (leaves site (codes "T_top") (pad_kind fabric packed fixed implementation legal port site listed) (1, omega arith, refl)).1
