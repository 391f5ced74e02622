-- The ports of a tile's module: bits at its border, and those of its pads.
use Rattle.std.proofs.Common.{◌≡◌, ◌≢◌, ℕ, ◌<◌, Bool, true, false, List, [], ◌∷◌, ◌++◌, refl, Some, All, Contains, slice_get, codes, map}
use Rattle.std.specs.List.{flat_map, enumerate_from}
use Rattle.std.proofs.lemmas.List.Elements.{All-nil, All-cons, All-append, All-from_recursion, Contains-append_left, Contains-append_right}
use Rattle.fab_kinds.specs.declared.kind.Kind.{Kind}
use Rattle.fab_kinds.specs.declared.kind.Kind.TheVariants as kinds
use Rattle.fab_syntax.specs.declared.tree.Port.{Port}
use Rattle.fab_syntax.specs.Declarations.{is_input}
use Rattle.fab_fabric_text_defs.specs.fab_meaning_Runs.{user_clock_name, clock_name}
use Rattle.fab_fabric_text_defs.specs.fab_meaning_Loading.{write_strobe_name}
use Rattle.fab_fabric_text_defs.specs.fab_meaning_Ports.{scalar}
use Rattle.fab_fabric_text_defs.specs.fab_prim_Ports.{top_name, top_inputs, top_outputs}
use Rattle.fab_fabric_text_defs.specs.fab_model_mode_Mode.{Mode}
use Rattle.fab_fabric_text_defs.specs.fab_model_tiles_WireRow.{WireRow}
use Rattle.fab_fabric_text_defs.specs.fab_model_tiles_Bel.{Bel}
use Rattle.fab_fabric_text_defs.specs.fab_model_Rows.{is_jump}
use Rattle.fab_fabric_text_defs.specs.fab_model_Tiles.{PlainTile, counted}
use Rattle.fab_fabric_text_defs.specs.fab_gen_tile_Names.{frame_data_name, frame_strobe_name, chain_in_name, chain_out_name, begin_name, end_name, pad_name}
use Rattle.fab_fabric_text_defs.specs.fab_gen_tile_Borders.{side_border, border_ports}
use Rattle.fab_fabric_text_defs.specs.fab_gen_tile_ConfigModule.{frame_ports, chain_ports, config_ports}
use Rattle.fab_fabric_text_defs.specs.fab_gen_tile_TileModule.{pad_ports, bels_ports, tile_ports}
use Rattle.fab_tile_drives_laws.proofs.Endings.{all_flat_map, all_counted}
use Rattle.fab_tile_drives_laws.proofs.Members.{contains_at, contains_counted, contains_map}
use Rattle.fab_tile_drives_laws.proofs.Modes.{each_mode}
use Rattle.fab_drives_laws.proofs.Lists.{contains_flat, contains_numbered, all_of, all_if}
use Rattle.fab_drives_laws.proofs.Apart.{told_apart}
use Rattle.fab_drives_laws.proofs.Declared.{port_has_direction}

-- ---- all ports

all_border_ports : (P : Port → Type 0) → ((row : WireRow) (bit : ℕ) → P (scalar false (begin_name row bit))) → ((row : WireRow) (bit : ℕ) → P (scalar true (end_name row bit))) →
    (row : WireRow) → All P (border_ports row)
all_border_ports P begins ends row =
    let outs = counted (side_border row row.source) (λ bit. scalar false (begin_name row bit)) in
    let ins = counted (side_border row row.dest) (λ bit. scalar true (end_name row bit)) in
    all_if P (is_jump row.dir) [] (outs ++ ins) (All-nil P)
    (All-append P outs ins
    (all_counted P (side_border row row.source) (λ bit. scalar false (begin_name row bit)) (λ bit few. begins row bit))
    (all_counted P (side_border row row.dest) (λ bit. scalar true (end_name row bit)) (λ bit few. ends row bit)))

all_pad_ports : (P : Port → Type 0) → ((bel : ℕ) → P (scalar true (pad_name bel top_name))) → ((bel : ℕ) → P (scalar false (pad_name bel (codes "I_top")))) →
    ((bel : ℕ) → P (scalar false (pad_name bel (codes "T_top")))) → (bel : ℕ) (kind : Kind) → All P (pad_ports bel kind)
all_pad_ports P ins outs enables bel kinds.Lut4c = All-nil P
all_pad_ports P ins outs enables bel kinds.Io =
    All-cons P (scalar true (pad_name bel top_name)) (scalar false (pad_name bel (codes "I_top")) ∷ scalar false (pad_name bel (codes "T_top")) ∷ []) (ins bel)
    (All-cons P (scalar false (pad_name bel (codes "I_top"))) (scalar false (pad_name bel (codes "T_top")) ∷ []) (outs bel)
    (All-cons P (scalar false (pad_name bel (codes "T_top"))) [] (enables bel) (All-nil P)))
all_pad_ports P ins outs enables bel kinds.Mux8 = All-nil P

-- what holds of each sort of port holds of all ports of a tile
module _ (P : Port → Type 0) (clock : P (scalar true user_clock_name)) (mode : Mode) (carried : All P (config_ports mode))
    (begins : (row : WireRow) (bit : ℕ) → P (scalar false (begin_name row bit))) (ends : (row : WireRow) (bit : ℕ) → P (scalar true (end_name row bit)))
    (ins : (bel : ℕ) → P (scalar true (pad_name bel top_name))) (outs : (bel : ℕ) → P (scalar false (pad_name bel (codes "I_top"))))
    (enables : (bel : ℕ) → P (scalar false (pad_name bel (codes "T_top")))) where
  pub all_tile_ports : (tile : PlainTile) → All P (tile_ports mode tile)
  all_tile_ports tile =
      let borders = flat_map border_ports tile.rows in
      let pads = bels_ports tile.bels in
      All-cons P (scalar true user_clock_name) (config_ports mode ++ (borders ++ pads)) clock
      (All-append P (config_ports mode) (borders ++ pads) carried
      (All-append P borders pads
      (all_flat_map P border_ports tile.rows (all_of (λ (row : WireRow). All P (border_ports row)) tile.rows (all_border_ports P begins ends)))
      (all_flat_map P (λ (placed : ℕ × Bel). pad_ports placed.0 placed.1.kind) (enumerate_from 0 tile.bels)
      (all_of (λ (placed : ℕ × Bel). All P (pad_ports placed.0 placed.1.kind)) (enumerate_from 0 tile.bels) (λ placed. all_pad_ports P ins outs enables placed.0 placed.1.kind)))))

-- ---- where a port stands

border_port : (mode : Mode) (tile : PlainTile) (number : ℕ) (row : WireRow) (port : Port) → slice_get tile.rows number ≡ Some row → Contains (border_ports row) port → Contains (tile_ports mode tile) port
border_port mode tile number row port stands there =
    let borders = flat_map border_ports tile.rows in
    let pads = bels_ports tile.bels in
    Contains-append_right (scalar true user_clock_name ∷ config_ports mode) (borders ++ pads) port
    (Contains-append_left borders pads port (contains_flat border_ports tile.rows row port (contains_at tile.rows number row stands) there))

-- the ports of a row that is no jump
no_jump_ports : (row : WireRow) (port : Port) → is_jump row.dir ≡ false →
    Contains (counted (side_border row row.source) (λ bit. scalar false (begin_name row bit)) ++ counted (side_border row row.dest) (λ bit. scalar true (end_name row bit))) port →
    Contains (border_ports row) port
no_jump_ports row port no_jump there = rw no_jump there

pub begin_port : (mode : Mode) (tile : PlainTile) (number : ℕ) (row : WireRow) (bit : ℕ) → slice_get tile.rows number ≡ Some row → is_jump row.dir ≡ false → bit < side_border row row.source →
    Contains (tile_ports mode tile) (scalar false (begin_name row bit))
begin_port mode tile number row bit stands no_jump few =
    let port = scalar false (begin_name row bit) in
    border_port mode tile number row port stands
    (no_jump_ports row port no_jump
    (Contains-append_left (counted (side_border row row.source) (λ bit. scalar false (begin_name row bit))) (counted (side_border row row.dest) (λ bit. scalar true (end_name row bit))) port
    (contains_counted (side_border row row.source) (λ bit. scalar false (begin_name row bit)) bit few)))

pub end_port : (mode : Mode) (tile : PlainTile) (number : ℕ) (row : WireRow) (bit : ℕ) → slice_get tile.rows number ≡ Some row → is_jump row.dir ≡ false → bit < side_border row row.dest →
    Contains (tile_ports mode tile) (scalar true (end_name row bit))
end_port mode tile number row bit stands no_jump few =
    let port = scalar true (end_name row bit) in
    border_port mode tile number row port stands
    (no_jump_ports row port no_jump
    (Contains-append_right (counted (side_border row row.source) (λ bit. scalar false (begin_name row bit))) (counted (side_border row row.dest) (λ bit. scalar true (end_name row bit))) port
    (contains_counted (side_border row row.dest) (λ bit. scalar true (end_name row bit)) bit few)))

pub pad_port : (mode : Mode) (tile : PlainTile) (number : ℕ) (bel : Bel) → slice_get tile.bels number ≡ Some bel → Contains (top_inputs bel.kind) top_name →
    Contains (tile_ports mode tile) (scalar true (pad_name number top_name))
pad_port mode tile number bel stands is_pad =
    let port = scalar true (pad_name number top_name) in
    let ins = map (λ name. scalar true (pad_name number name)) (top_inputs bel.kind) in
    let outs = map (λ name. scalar false (pad_name number name)) (top_outputs bel.kind) in
    let borders = flat_map border_ports tile.rows in
    let pads = bels_ports tile.bels in
    let placed : ℕ × Bel = (number, bel) in
    Contains-append_right (scalar true user_clock_name ∷ config_ports mode) (borders ++ pads) port
    (Contains-append_right borders pads port
    (contains_flat (λ (p : ℕ × Bel). pad_ports p.0 p.1.kind) (enumerate_from 0 tile.bels) placed port (contains_numbered tile.bels number bel stands)
    (Contains-append_left ins outs port (contains_map (λ name. scalar true (pad_name number name)) (top_inputs bel.kind) top_name is_pad))))

-- ---- their directions: the fifth letter of a name tells outputs, inputs and pads apart

-- a port of this name goes in
abbrev IsInput : (name : List ℕ) → (input : Bool) → Port → Type 0
IsInput name input other = other.name ≡ name → other.input ≡ input

-- the bits come by inputs, but for what goes on along a chain
inputs_carry : (mode : Mode) (name : List ℕ) → chain_out_name ≢ name → All (IsInput name true) (config_ports mode)
inputs_carry mode name no_out =
    each_mode (IsInput name true)
    (All-from_recursion (IsInput name true) frame_ports ((λ same. refl), ((λ same. refl), tt)))
    (All-from_recursion (IsInput name true) chain_ports ((λ same. refl), ((λ same. refl), ((λ same. refl), ((λ same. absurd (no_out same)), tt))))) mode

pub end_is_input : (mode : Mode) (tile : PlainTile) (number : ℕ) (row : WireRow) (bit : ℕ) → slice_get tile.rows number ≡ Some row → is_jump row.dir ≡ false → bit < side_border row row.dest →
    is_input (tile_ports mode tile) (end_name row bit) ≡ true
end_is_input mode tile number row bit stands no_jump few =
    let name = end_name row bit in
    port_has_direction (tile_ports mode tile) (scalar true name) (end_port mode tile number row bit stands no_jump few)
    (all_tile_ports (IsInput name true) (λ same. refl) mode (inputs_carry mode name (told_apart 4 chain_out_name name refl))
    (λ other n same. absurd (told_apart 4 (begin_name other n) name refl same)) (λ other n same. refl) (λ bel same. refl)
    (λ bel same. absurd (told_apart 4 (pad_name bel (codes "I_top")) name refl same)) (λ bel same. absurd (told_apart 4 (pad_name bel (codes "T_top")) name refl same)) tile)

pub begin_is_output : (mode : Mode) (tile : PlainTile) (number : ℕ) (row : WireRow) (bit : ℕ) → slice_get tile.rows number ≡ Some row → is_jump row.dir ≡ false → bit < side_border row row.source →
    is_input (tile_ports mode tile) (begin_name row bit) ≡ false
begin_is_output mode tile number row bit stands no_jump few =
    let name = begin_name row bit in
    port_has_direction (tile_ports mode tile) (scalar false name) (begin_port mode tile number row bit stands no_jump few)
    (all_tile_ports (IsInput name false)
    (λ same. absurd (told_apart 4 user_clock_name name refl same)) mode
    (each_mode (IsInput name false)
    (All-from_recursion (IsInput name false) frame_ports
    ((λ same. absurd (told_apart 4 frame_data_name name refl same)), ((λ same. absurd (told_apart 4 frame_strobe_name name refl same)), tt)))
    (All-from_recursion (IsInput name false) chain_ports (
      (λ same. absurd (told_apart 4 clock_name name refl same)),
      (
        (λ same. absurd (told_apart 4 write_strobe_name name refl same)),
        ((λ same. absurd (told_apart 4 chain_in_name name refl same)), ((λ same. refl), tt)),
      ),
    )) mode)
    (λ other n same. refl) (λ other n same. absurd (told_apart 4 (end_name other n) name refl same))
    (λ bel same. absurd (told_apart 4 (pad_name bel top_name) name refl same)) (λ bel same. refl) (λ bel same. refl) tile)

-- and of pads the first letter of the port
pub pad_is_input : (mode : Mode) (tile : PlainTile) (number : ℕ) (bel : Bel) → slice_get tile.bels number ≡ Some bel → Contains (top_inputs bel.kind) top_name → is_input (tile_ports mode tile) (pad_name number top_name) ≡ true
pad_is_input mode tile number bel stands is_pad =
    let name = pad_name number top_name in
    port_has_direction (tile_ports mode tile) (scalar true name) (pad_port mode tile number bel stands is_pad)
    (all_tile_ports (IsInput name true) (λ same. refl) mode (inputs_carry mode name (told_apart 4 chain_out_name name refl))
    (λ other n same. absurd (told_apart 4 (begin_name other n) name refl same)) (λ other n same. refl) (λ other same. refl)
    (λ other same. absurd (told_apart 8 (pad_name other (codes "I_top")) name refl same)) (λ other same. absurd (told_apart 8 (pad_name other (codes "T_top")) name refl same)) tile)
