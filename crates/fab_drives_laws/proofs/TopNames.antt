-- What the top declares: the wires between tiles, and the ports of pads.
use Rattle.std.proofs.Common.{◌≡◌, ℕ, ◌<◌, true, false, List, [], ◌∷◌, ◌++◌, map, arith, Some, All, Contains, slice_get}
use Rattle.std.specs.List.{flat_map, enumerate_from}
use Rattle.std.proofs.lemmas.List.Elements.{All-cons, All-append, All-map, Contains-append_left, Contains-append_right}
use Rattle.fab_syntax.specs.declared.tree.Shape.TheVariants.{Scalar}
use Rattle.fab_syntax.specs.Plain.{wire}
use Rattle.fab_syntax.specs.Declarations.{declared_width}
use Rattle.fab_fabric_text_defs.specs.fab_meaning_Runs.{user_clock_name, clock_name}
use Rattle.fab_fabric_text_defs.specs.fab_meaning_Ports.{scalar}
use Rattle.fab_fabric_text_defs.specs.fab_prim_Ports.{top_name, top_inputs, top_outputs}
use Rattle.fab_fabric_text_defs.specs.fab_model_mode_Mode.{Mode}
use Rattle.fab_fabric_text_defs.specs.fab_model_mode_Mode_TheVariants as modes
use Rattle.fab_fabric_text_defs.specs.fab_model_tiles_WireRow.{WireRow}
use Rattle.fab_fabric_text_defs.specs.fab_model_tiles_Bel.{Bel}
use Rattle.fab_fabric_text_defs.specs.fab_model_Rows.{is_jump}
use Rattle.fab_fabric_text_defs.specs.fab_model_Tiles.{PlainTile}
use Rattle.fab_fabric_text_defs.specs.fab_model_Grid.{PlainFabric, tile_at}
use Rattle.fab_fabric_text_defs.specs.fab_gen_tile_Borders.{side_border}
use Rattle.fab_fabric_text_defs.specs.fab_meaning_Loading.{write_strobe_name}
use Rattle.fab_fabric_text_defs.specs.Names.{pad_port_name, begin_wire_name}
use Rattle.fab_fabric_text_defs.specs.Places.{PlacedTile, placed_tiles}
use Rattle.fab_fabric_text_defs.specs.Mode.{text_mode}
use Rattle.fab_fabric_text_defs.specs.Top.{pad_ports, tile_pads, data_port, top_ports, carrying_items, row_begin_wires, tile_begin_wires, tile_instance, top_items}
use Rattle.fab_tile_drives_laws.proofs.Endings.{all_flat_map}
use Rattle.fab_tile_drives_laws.proofs.Members.{contains_counted, contains_at, contains_map}
use Rattle.fab_drives_laws.proofs.Lists.{contains_flat, contains_numbered, all_of}
use Rattle.fab_tile_drives_laws.proofs.Widths.{IsWide, wide_port}
use Rattle.fab_drives_laws.proofs.Declared.{IsWideItem, wire_has_bits}
use Rattle.fab_drives_laws.proofs.Places.{placed_tile, tile_is_placed}
use Rattle.fab_drives_laws.proofs.Instances.{all_of_top}

-- ---- widths

wide_pads : (x y : ℕ) (placed : ℕ × Bel) → All IsWide (pad_ports x y placed)
wide_pads x y placed =
    let kind = placed.1.kind in
    let in_port = λ (port : List ℕ). scalar true (pad_port_name x y placed.0 port) in
    let out_port = λ (port : List ℕ). scalar false (pad_port_name x y placed.0 port) in
    All-append IsWide (map in_port (top_inputs kind)) (map out_port (top_outputs kind))
    (All-map IsWide in_port (top_inputs kind) (all_of (λ (port : List ℕ). IsWide (in_port port)) (top_inputs kind) (λ port. omega arith)))
    (All-map IsWide out_port (top_outputs kind) (all_of (λ (port : List ℕ). IsWide (out_port port)) (top_outputs kind) (λ port. omega arith)))

wide_data : (mode : Mode) → IsWide (data_port mode)
wide_data modes.Frames = omega arith
wide_data modes.Chain = omega arith

wide_top_ports : (fabric : PlainFabric) → All IsWide (top_ports fabric)
wide_top_ports fabric =
    let pads = flat_map tile_pads (placed_tiles fabric) in
    All-cons IsWide (scalar true clock_name) (scalar true user_clock_name ∷ scalar true write_strobe_name ∷ data_port (text_mode fabric) ∷ pads) (omega arith)
    (All-cons IsWide (scalar true user_clock_name) (scalar true write_strobe_name ∷ data_port (text_mode fabric) ∷ pads) (omega arith)
    (All-cons IsWide (scalar true write_strobe_name) (data_port (text_mode fabric) ∷ pads) (omega arith)
    (All-cons IsWide (data_port (text_mode fabric)) pads (wide_data (text_mode fabric))
    (all_flat_map IsWide tile_pads (placed_tiles fabric)
    (all_of (λ (p : PlacedTile). All IsWide (tile_pads p)) (placed_tiles fabric) (λ p.
    all_flat_map IsWide (pad_ports p.x p.y) (enumerate_from 0 p.tile.bels)
    (all_of (λ (placed : ℕ × Bel). All IsWide (pad_ports p.x p.y placed)) (enumerate_from 0 p.tile.bels) (wide_pads p.x p.y))))))))

wide_top_items : (fabric : PlainFabric) → All IsWideItem (top_items fabric)
wide_top_items fabric = all_of_top fabric IsWideItem (λ name. omega arith) (λ name. omega arith) (λ name. omega arith) (λ x. tt) (λ frames. tt) (λ placed there. tt)

-- ---- pads

pad_port : (fabric : PlainFabric) (x y : ℕ) (tile : PlainTile) (number : ℕ) (bel : Bel) → tile_at fabric x y ≡ Some tile → slice_get tile.bels number ≡ Some bel →
    Contains (top_inputs bel.kind) top_name → Contains (top_ports fabric) (scalar true (pad_port_name x y number top_name))
pad_port fabric x y tile number bel there stands is_pad =
    let port = scalar true (pad_port_name x y number top_name) in
    let placed : ℕ × Bel = (number, bel) in
    let front = scalar true clock_name ∷ scalar true user_clock_name ∷ scalar true write_strobe_name ∷ data_port (text_mode fabric) ∷ [] in
    let in_port = λ (name : List ℕ). scalar true (pad_port_name x y number name) in
    let out_port = λ (name : List ℕ). scalar false (pad_port_name x y number name) in
    Contains-append_right front (flat_map tile_pads (placed_tiles fabric)) port
    (contains_flat tile_pads (placed_tiles fabric) (placed_tile x y tile) port (tile_is_placed fabric x y tile there)
    (contains_flat (pad_ports x y) (enumerate_from 0 tile.bels) placed port (contains_numbered tile.bels number bel stands)
    (Contains-append_left (map in_port (top_inputs bel.kind)) (map out_port (top_outputs bel.kind)) port (contains_map in_port (top_inputs bel.kind) top_name is_pad))))

pub pad_port_has_bits : (fabric : PlainFabric) (x y : ℕ) (tile : PlainTile) (number : ℕ) (bel : Bel) → tile_at fabric x y ≡ Some tile → slice_get tile.bels number ≡ Some bel →
    Contains (top_inputs bel.kind) top_name → 0 < declared_width (top_ports fabric) (top_items fabric) (pad_port_name x y number top_name)
pad_port_has_bits fabric x y tile number bel there stands is_pad =
    wide_port (top_ports fabric) (top_items fabric) (scalar true (pad_port_name x y number top_name)) (wide_top_ports fabric) (pad_port fabric x y tile number bel there stands is_pad)

-- ---- wires between tiles

row_begin_wire : (x y : ℕ) (row : WireRow) (bit : ℕ) → is_jump row.dir ≡ false → bit < side_border row row.source → Contains (row_begin_wires x y row) (wire Scalar (begin_wire_name x y row bit))
row_begin_wire x y row bit no_jump few = rw no_jump (contains_counted (side_border row row.source) (λ bit. wire Scalar (begin_wire_name x y row bit)) bit few)

pub begin_wire : (fabric : PlainFabric) (x y : ℕ) (tile : PlainTile) (number : ℕ) (row : WireRow) (bit : ℕ) → tile_at fabric x y ≡ Some tile → slice_get tile.rows number ≡ Some row →
    is_jump row.dir ≡ false → bit < side_border row row.source → Contains (top_items fabric) (wire Scalar (begin_wire_name x y row bit))
begin_wire fabric x y tile number row bit there stands no_jump few =
    let item = wire Scalar (begin_wire_name x y row bit) in
    let placed = placed_tiles fabric in
    let instances = map (tile_instance fabric) placed in
    let begins = flat_map tile_begin_wires placed in
    Contains-append_right (carrying_items (text_mode fabric) fabric) (begins ++ instances) item
    (Contains-append_left begins instances item
    (contains_flat tile_begin_wires placed (placed_tile x y tile) item (tile_is_placed fabric x y tile there)
    (contains_flat (row_begin_wires x y) tile.rows row item (contains_at tile.rows number row stands) (row_begin_wire x y row bit no_jump few))))

pub begin_wire_has_bits : (fabric : PlainFabric) (x y : ℕ) (tile : PlainTile) (number : ℕ) (row : WireRow) (bit : ℕ) → tile_at fabric x y ≡ Some tile →
    slice_get tile.rows number ≡ Some row → is_jump row.dir ≡ false → bit < side_border row row.source →
    0 < declared_width (top_ports fabric) (top_items fabric) (begin_wire_name x y row bit)
begin_wire_has_bits fabric x y tile number row bit there stands no_jump few =
    wire_has_bits (top_ports fabric) (top_items fabric) Scalar (begin_wire_name x y row bit) (wide_top_ports fabric) (wide_top_items fabric)
    (begin_wire fabric x y tile number row bit there stands no_jump few)
