-- How wide the names of a tile's module are.
use Rattle.std.proofs.Common.{◌≡◌, ◌≢◌, ℕ, zero, suc, ◌+◌, ◌<◌, true, false, List, ◌++◌, map, slice_get, get_or, refl, ap, ◌∙◌, inl, inr, arith, Option, Some, None, All, Contains}
use Rattle.std.specs.List.{flat_map, enumerate_from}
use Rattle.std.proofs.lemmas.Bool.{cases_Bool}
use Rattle.std.proofs.lemmas.List.Elements.{All-nil, All-cons, All-append, All-weaker, Contains-append_left, Contains-append_right}
use Rattle.fab_kinds.specs.declared.kind.Kind.{Kind}
use Rattle.fab_kinds.specs.declared.kind.Kind.TheVariants as kinds
use Rattle.fab_gen_tile.specs.fab_syntax.specs.declared.tree.Port.{Port}
use Rattle.fab_gen_tile.specs.fab_syntax.specs.Plain.{PlainItem}
use Rattle.fab_gen_tile.specs.fab_syntax.specs.Declarations.{width_if_any, item_shape, declared_width}
use Rattle.fab_gen_tile.specs.fab_meaning.specs.Runs.{user_clock_name}
use Rattle.fab_gen_tile.specs.fab_meaning.proofs.Modules.{each_all}
use Rattle.fab_gen_tile.specs.fab_meaning.specs.Ports.{scalar}
use Rattle.fab_gen_tile.specs.fab_model.specs.declared.mode.Mode.{Mode}
use Rattle.fab_gen_tile.specs.fab_model.specs.declared.tiles.WireRow.{WireRow}
use Rattle.fab_gen_tile.specs.fab_model.specs.declared.tiles.Bel.{Bel}
use Rattle.fab_gen_tile.specs.fab_model.specs.Rows.{is_jump}
use Rattle.fab_gen_tile.specs.fab_model.specs.Tiles.{PlainTile, counted, matrix_names, tile_bits}
use Rattle.fab_gen_tile.specs.fab_prim.specs.Ports.{top_inputs, top_outputs}
use Rattle.fab_gen_tile.specs.Names.{bits_name, border_name, begin_name, end_name, pad_name}
use Rattle.fab_gen_tile.specs.Borders.{side_border, border_ports}
use Rattle.fab_gen_tile.specs.ConfigModule.{frame_ports, chain_ports, config_ports}
use Rattle.fab_gen_tile.specs.TileModule.{pad_ports, bels_ports, tile_ports, bits_wire, tile_items}
use Rattle.fab_tile_drives_laws.proofs.Endings.{last_byte, last_append, EndsLow, low_apart, decimal_end, all_counted, all_flat_map, low_names}
use Rattle.fab_tile_drives_laws.proofs.Modes.{each_mode}
use Rattle.fab_tile_drives_laws.proofs.Members.{contains_later, contains_map, contains_counted, contains_flat_map, get_enumerated}
use Rattle.fab_tile_drives_laws.proofs.Widths.{IsWide, wide_port, wide_item, passed_ports, scalar_wire, passed_wires}

-- ---- the ports

-- a port with a bit, whose name is not that of the configuration bits
record IsTilePort (port : Port) : Type 0 where
  wide : IsWide port
  low : EndsLow port.name

border_low : (side : Option (List ℕ)) (bit before : ℕ) → last_byte (border_name side bit) before < 115
border_low None bit before = decimal_end bit 95
border_low (Some name) bit before = rw last_append (decimal_end bit 95)

ports_of_border : (row : WireRow) → All IsTilePort (border_ports row)
ports_of_border row =
    let begins : All IsTilePort (counted (side_border row row.source) (λ bit. scalar false (begin_name row bit))) =
    all_counted IsTilePort (side_border row row.source) (λ bit. scalar false (begin_name row bit)) (λ bit few. record { wide = omega arith; low = border_low row.source bit 95 }) in
    let ends : All IsTilePort (counted (side_border row row.dest) (λ bit. scalar true (end_name row bit))) =
    all_counted IsTilePort (side_border row row.dest) (λ bit. scalar true (end_name row bit)) (λ bit few. record { wide = omega arith; low = border_low row.dest bit 95 }) in
    elim (cases_Bool (is_jump row.dir)) [
      | inl jump ↦ rw jump (All-nil IsTilePort)
      | inr other ↦ rw other (All-append IsTilePort _ _ begins ends)
    ]

ports_of_pad : (place : ℕ) (kind : Kind) → All IsTilePort (pad_ports place kind)
ports_of_pad place kinds.Lut4c = All-nil IsTilePort
ports_of_pad place kinds.Io =
    each_all IsTilePort (pad_ports place kinds.Io)
    (record { wide = omega arith; low = omega arith }, (record { wide = omega arith; low = omega arith }, (record { wide = omega arith; low = omega arith }, tt)))
ports_of_pad place kinds.Mux8 = All-nil IsTilePort

ports_of_tile : (mode : Mode) (tile : PlainTile) → All IsTilePort (tile_ports mode tile)
ports_of_tile mode tile =
    let rows : All IsTilePort (flat_map border_ports tile.rows) = all_flat_map IsTilePort border_ports tile.rows (λ k d few. ports_of_border (get_or tile.rows k d)) in
    let bels : All IsTilePort (bels_ports tile.bels) =
    all_flat_map IsTilePort (λ (placed : ℕ × Bel). pad_ports placed.0 placed.1.kind) (enumerate_from 0 tile.bels)
    (λ k d few. ports_of_pad (get_or (enumerate_from 0 tile.bels) k d).0 (get_or (enumerate_from 0 tile.bels) k d).1.kind) in
    let carried : All IsTilePort (config_ports mode) =
    each_mode IsTilePort
    (each_all IsTilePort frame_ports (record { wide = omega arith; low = omega arith }, (record { wide = omega arith; low = omega arith }, tt)))
    (each_all IsTilePort chain_ports (record { wide = omega arith; low = omega arith }, (record { wide = omega arith; low = omega arith }, (record { wide = omega arith; low = omega arith }, (record { wide = omega arith; low = omega arith }, tt)))))
    mode in
    All-cons IsTilePort (scalar true user_clock_name) (config_ports mode ++ (flat_map border_ports tile.rows ++ bels_ports tile.bels)) (record { wide = omega arith; low = omega arith })
    (All-append IsTilePort (config_ports mode) (flat_map border_ports tile.rows ++ bels_ports tile.bels) carried
    (All-append IsTilePort (flat_map border_ports tile.rows) (bels_ports tile.bels) rows bels))

wide_ports : (mode : Mode) (tile : PlainTile) → All IsWide (tile_ports mode tile)
wide_ports mode tile = All-weaker IsTilePort IsWide (λ port is. is.wide) (tile_ports mode tile) (ports_of_tile mode tile)

-- ---- widths

abbrev pub tile_width : Mode → PlainTile → List ℕ → ℕ
tile_width mode tile name = declared_width (tile_ports mode tile) (tile_items mode tile) name

-- a matrix name has a bit
pub name_wide : (mode : Mode) (tile : PlainTile) (name : List ℕ) → Contains (matrix_names tile) name → 0 < tile_width mode tile name
name_wide mode tile name there =
    wide_item (tile_ports mode tile) (tile_items mode tile) name (wide_ports mode tile) (rw (scalar_wire (matrix_names tile) _ name there) (omega arith))

-- what the ports of the rows and of the BELs are among
row_port : (mode : Mode) (tile : PlainTile) (row : ℕ) (found : WireRow) (port : Port) → slice_get tile.rows row ≡ Some found → Contains (border_ports found) port → Contains (tile_ports mode tile) port
row_port mode tile row found port there among =
    contains_later (scalar true user_clock_name) (config_ports mode ++ (flat_map border_ports tile.rows ++ bels_ports tile.bels)) port
    (Contains-append_right (config_ports mode) (flat_map border_ports tile.rows ++ bels_ports tile.bels) port
    (Contains-append_left (flat_map border_ports tile.rows) (bels_ports tile.bels) port
    (contains_flat_map border_ports tile.rows row found port there among)))

pub end_wide : (mode : Mode) (tile : PlainTile) (row bit : ℕ) (found : WireRow) → slice_get tile.rows row ≡ Some found → is_jump found.dir ≡ false → bit < side_border found found.dest →
    0 < tile_width mode tile (end_name found bit)
end_wide mode tile row bit found there other few =
    let begins = counted (side_border found found.source) (λ bit. scalar false (begin_name found bit)) in
    let ends = counted (side_border found found.dest) (λ bit. scalar true (end_name found bit)) in
    let among : Contains (border_ports found) (scalar true (end_name found bit)) =
    rw other (Contains-append_right begins ends (scalar true (end_name found bit)) (contains_counted (side_border found found.dest) (λ bit. scalar true (end_name found bit)) bit few)) in
    wide_port (tile_ports mode tile) (tile_items mode tile) (scalar true (end_name found bit)) (wide_ports mode tile) (row_port mode tile row found (scalar true (end_name found bit)) there among)

pub begin_wide : (mode : Mode) (tile : PlainTile) (row bit : ℕ) (found : WireRow) → slice_get tile.rows row ≡ Some found → is_jump found.dir ≡ false → bit < side_border found found.source →
    0 < tile_width mode tile (begin_name found bit)
begin_wide mode tile row bit found there other few =
    let begins = counted (side_border found found.source) (λ bit. scalar false (begin_name found bit)) in
    let ends = counted (side_border found found.dest) (λ bit. scalar true (end_name found bit)) in
    let among : Contains (border_ports found) (scalar false (begin_name found bit)) =
    rw other (Contains-append_left begins ends (scalar false (begin_name found bit)) (contains_counted (side_border found found.source) (λ bit. scalar false (begin_name found bit)) bit few)) in
    wide_port (tile_ports mode tile) (tile_items mode tile) (scalar false (begin_name found bit)) (wide_ports mode tile) (row_port mode tile row found (scalar false (begin_name found bit)) there among)

-- what comes to a BEL from outside
pub top_wide : (mode : Mode) (tile : PlainTile) (bel : ℕ) (found : Bel) (port : List ℕ) → slice_get tile.bels bel ≡ Some found → Contains (top_inputs found.kind) port →
    0 < tile_width mode tile (pad_name bel port)
top_wide mode tile bel found port there among =
    let one = scalar true (pad_name bel port) in
    let ins = map (λ port. scalar true (pad_name bel port)) (top_inputs found.kind) in
    let outs = map (λ port. scalar false (pad_name bel port)) (top_outputs found.kind) in
    let placed : slice_get (enumerate_from 0 tile.bels) bel ≡ Some (bel, found) =
    get_enumerated 0 tile.bels bel found there ∙ ap (λ n. Some (n, found)) (zero_and bel) in
    let of_bel : Contains (pad_ports bel found.kind) one = Contains-append_left ins outs one (contains_map (λ port. scalar true (pad_name bel port)) (top_inputs found.kind) port among) in
    let of_bels : Contains (bels_ports tile.bels) one =
    contains_flat_map (λ (placed : ℕ × Bel). pad_ports placed.0 placed.1.kind) (enumerate_from 0 tile.bels) bel (bel, found) one placed of_bel in
    let all : Contains (tile_ports mode tile) one =
    contains_later (scalar true user_clock_name) (config_ports mode ++ (flat_map border_ports tile.rows ++ bels_ports tile.bels)) one
    (Contains-append_right (config_ports mode) (flat_map border_ports tile.rows ++ bels_ports tile.bels) one
    (Contains-append_right (flat_map border_ports tile.rows) (bels_ports tile.bels) one of_bels)) in
    wide_port (tile_ports mode tile) (tile_items mode tile) one (wide_ports mode tile) all
  where
    zero_and : (n : ℕ) → 0 + n ≡ n
    zero_and n = omega arith

bits_shape : (bits : ℕ) (items : List PlainItem) → 0 < bits → width_if_any (item_shape (bits_wire bits ++ items) bits_name) ≡ bits
bits_shape zero items some = absurd (omega arith)
bits_shape (suc bits) items some = refl

-- the configuration bits are as many
pub bits_wide : (mode : Mode) (tile : PlainTile) → 0 < tile_bits tile → tile_width mode tile bits_name ≡ tile_bits tile
bits_wide mode tile some =
    let others : All (λ (port : Port). port.name ≢ bits_name) (tile_ports mode tile) =
    All-weaker IsTilePort (λ (port : Port). port.name ≢ bits_name) (λ port is. low_apart port.name bits_name is.low refl) (tile_ports mode tile) (ports_of_tile mode tile) in
    let names : All (λ name. name ≢ bits_name) (matrix_names tile) =
    All-weaker EndsLow (λ name. name ≢ bits_name) (λ name low. low_apart name bits_name low refl) (matrix_names tile) (low_names tile) in
    passed_ports (tile_ports mode tile) (tile_items mode tile) bits_name others
    ∙ ap width_if_any (passed_wires (matrix_names tile) _ bits_name names)
    ∙ bits_shape (tile_bits tile) _ some
