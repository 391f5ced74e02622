-- The items of a tile's module, and what it lacks where the tile has no configuration bits.
use Rattle.std.proofs.Common.{◌≡◌, ◌≢◌, ℕ, zero, suc, ◌<◌, true, false, List, [], ◌∷◌, ◌++◌, length, map, refl, sym, ap, ◌∙◌, inl, inr, arith, Option, Some, None, All, Contains, nat_lt}
use Rattle.std.specs.List.{flat_map, enumerate_from}
use Rattle.std.specs.Str.{bytes_eq}
use Rattle.std.proofs.lemmas.Bool.{cases_lt, ltb-true}
use Rattle.std.proofs.lemmas.List.Elements.{All-nil, All-cons, All-head, All-tail, All-append, All-map, All-weaker, All-contains_itself}
use Rattle.fab_kinds.specs.declared.kind.Kind.{Kind}
use Rattle.fab_syntax.specs.declared.tree.Shape.TheVariants.{Scalar, Vector}
use Rattle.fab_syntax.specs.declared.tree.Port.{Port}
use Rattle.fab_syntax.specs.Plain.{PlainExpr, PlainItem, PlainModule, variable, wire, reg, assign, latch, clocked, instance}
use Rattle.fab_syntax.specs.Declarations.{width_in}
use Rattle.fab_meaning.specs.Points.{Path, point, instance_named, instance_in, module_of, module_at}
use Rattle.fab_meaning.specs.Reads.{is_declared}
use Rattle.fab_meaning.specs.Runs.{user_clock_name, clock_name}
use Rattle.fab_meaning.specs.Loading.{write_strobe_name}
use Rattle.fab_meaning.proofs.Declared.{bytes_apart}
use Rattle.fab_meaning.proofs.Modules.{each_all}
use Rattle.fab_meaning.specs.Ports.{scalar}
use Rattle.fab_drives_laws.specs.fab_prim_Ports.{top_inputs, top_outputs}
use Rattle.fab_drives_laws.specs.fab_model_mode_Mode.{Mode}
use Rattle.fab_drives_laws.specs.fab_model_mode_Mode_TheVariants as modes
use Rattle.fab_drives_laws.specs.fab_model_tiles_WireRow.{WireRow}
use Rattle.fab_drives_laws.specs.fab_model_tiles_Bel.{Bel}
use Rattle.fab_drives_laws.specs.fab_model_Rows.{is_jump, dest_bits}
use Rattle.fab_drives_laws.specs.fab_model_Tiles.{PlainTile, counted, matrix_names, tile_bits, bits_before}
use Rattle.fab_drives_laws.specs.fab_gen_tile_Names.{config_module_name, matrix_module_name, config_instance_name, matrix_instance_name, bel_instance_name, frame_data_name, frame_strobe_name, chain_in_name, chain_out_name, bits_name, begin_name, end_name, pad_name}
use Rattle.fab_drives_laws.specs.fab_gen_tile_Borders.{border, side_border, border_ports, passing_assign, beginning_assign, begin_assigns, dest_assign, row_assigns}
use Rattle.fab_drives_laws.specs.fab_gen_tile_ConfigModule.{config_ports, chain_end}
use Rattle.fab_drives_laws.specs.fab_gen_tile_TileModule.{pad_ports, bels_ports, tile_ports, bits_wire, config_joins, no_config, config_instances, matrix_joins, matrix_output_names, matrix_instances, bel_instance, bel_instances, tile_items, tile_module}
use Rattle.fab_drives_laws.proofs.fab_tile_drives_laws_Endings.{EndsLow, low_apart, low_names, all_counted, all_flat_map}
use Rattle.fab_drives_laws.proofs.fab_tile_drives_laws_Modes.{each_mode}
use Rattle.fab_drives_laws.proofs.fab_tile_drives_laws_TileNames.{tile_width}
use Rattle.fab_drives_laws.proofs.Apart.{told_apart}
use Rattle.fab_drives_laws.proofs.Lists.{all_of, all_if, all_numbered}
use Rattle.fab_text_loads_laws.proofs.Declared.{NetHolds, declared_holds}

-- ---- all items

module _ (mode : Mode) (tile : PlainTile) (P : PlainItem → Type 0) (assigns : (target : List ℕ) (e : PlainExpr) → P (assign target e)) where
  all_begins : (row : WireRow) (source dest : Option (List ℕ)) → All P (begin_assigns row source dest)
  all_begins row None dest = All-nil P
  all_begins row (Some source) None = all_counted P (border row) (beginning_assign row 0) (λ output few. assigns _ _)
  all_begins row (Some source) (Some dest) =
      All-append P _ _ (all_counted P _ (passing_assign row) (λ bit few. assigns _ _)) (all_counted P row.count (beginning_assign row _) (λ output few. assigns _ _))

  all_row_assigns : (row : WireRow) → All P (row_assigns row)
  all_row_assigns row =
      All-append P _ (counted (dest_bits row) (dest_assign row))
      (all_if P (is_jump row.dir) [] (begin_assigns row row.source row.dest) (All-nil P) (all_begins row row.source row.dest))
      (all_counted P (dest_bits row) (dest_assign row) (λ bit few. assigns _ _))

  all_bits_wires : (bits : ℕ) → (0 < bits → P (wire (Vector bits) bits_name)) → All P (bits_wire bits)
  all_bits_wires zero is = All-nil P
  all_bits_wires (suc bits) is = All-cons P (wire (Vector (suc bits)) bits_name) [] (is (omega arith)) (All-nil P)

  abbrev config_instance : PlainItem
  config_instance = instance (config_module_name tile) config_instance_name (config_joins mode)

  none_configured : (m : Mode) → All P (no_config m)
  none_configured modes.Frames = All-nil P
  none_configured modes.Chain = All-cons P (chain_end 0) [] (assigns chain_out_name (variable chain_in_name)) (All-nil P)

  all_configs : (bits : ℕ) → (0 < bits → P config_instance) → All P (config_instances mode tile bits)
  all_configs zero is = none_configured mode
  all_configs (suc bits) is = All-cons P config_instance [] (is (omega arith)) (All-nil P)

  abbrev matrix_instance : PlainItem
  matrix_instance = instance (matrix_module_name tile) matrix_instance_name (matrix_joins tile)

  all_matrices : (outputs : List (List ℕ)) → (0 < length outputs → P matrix_instance) → All P (matrix_instances tile outputs)
  all_matrices [] is = All-nil P
  all_matrices (output ∷ outputs) is = All-cons P matrix_instance [] (is (omega arith)) (All-nil P)

  -- what holds of wires, assigns and instances holds of all items of a tile
  pub all_of_items : All (λ name. P (wire Scalar name)) (matrix_names tile) → (0 < tile_bits tile → P (wire (Vector (tile_bits tile)) bits_name)) →
      (0 < tile_bits tile → P config_instance) → (0 < length (matrix_output_names tile) → P matrix_instance) →
      ((place low : ℕ) (bel : Bel) → Contains tile.bels bel → P (bel_instance place low bel)) → All P (tile_items mode tile)
  all_of_items wires bits_are configs matrix bels =
      let placed_bel = λ (placed : ℕ × Bel). bel_instance placed.0 (bits_before tile.bels placed.0) placed.1 in
      All-append P (map (wire Scalar) (matrix_names tile)) _ (All-map P (wire Scalar) (matrix_names tile) wires)
      (All-append P (bits_wire (tile_bits tile)) _ (all_bits_wires (tile_bits tile) bits_are)
      (All-append P (flat_map row_assigns tile.rows) _ (all_flat_map P row_assigns tile.rows (all_of (λ (row : WireRow). All P (row_assigns row)) tile.rows all_row_assigns))
      (All-append P (config_instances mode tile (tile_bits tile)) _ (all_configs (tile_bits tile) configs)
      (All-append P (matrix_instances tile (matrix_output_names tile)) (bel_instances tile.bels) (all_matrices (matrix_output_names tile) matrix)
      (All-map P placed_bel (enumerate_from 0 tile.bels)
      (All-weaker (λ (placed : ℕ × Bel). Contains tile.bels placed.1) (λ (placed : ℕ × Bel). P (placed_bel placed)) (λ placed listed. bels _ _ _ listed) (enumerate_from 0 tile.bels)
      (all_numbered (Contains tile.bels) 0 tile.bels (All-contains_itself tile.bels))))))))

-- ---- no instance of a name

abbrev pub IsNotCalled : List ℕ → PlainItem → Type 0
IsNotCalled name (instance module_name other joins) = other ≢ name
IsNotCalled name (wire shape other) = Unit {0}
IsNotCalled name (reg shape other) = Unit {0}
IsNotCalled name (assign target e) = Unit {0}
IsNotCalled name (latch target gate e) = Unit {0}
IsNotCalled name (clocked clock target e) = Unit {0}

pub none_named : (items : List PlainItem) (name : List ℕ) → All (IsNotCalled name) items → instance_named items name ≡ None
none_named [] name all = refl
none_named (wire shape other ∷ items) name all = none_named items name (All-tail (IsNotCalled name) (wire shape other) items all)
none_named (reg shape other ∷ items) name all = none_named items name (All-tail (IsNotCalled name) (reg shape other) items all)
none_named (assign target e ∷ items) name all = none_named items name (All-tail (IsNotCalled name) (assign target e) items all)
none_named (latch target gate e ∷ items) name all = none_named items name (All-tail (IsNotCalled name) (latch target gate e) items all)
none_named (clocked clock target e ∷ items) name all = none_named items name (All-tail (IsNotCalled name) (clocked clock target e) items all)
none_named (instance module_name other joins ∷ items) name all =
    let apart : bytes_eq other name ≡ false = bytes_apart other name (All-head (IsNotCalled name) (instance module_name other joins) items all) in
    rw apart (none_named items name (All-tail (IsNotCalled name) (instance module_name other joins) items all))

no_config_instance : (mode : Mode) (tile : PlainTile) → (0 < tile_bits tile → ⊥) → instance_named (tile_items mode tile) config_instance_name ≡ None
no_config_instance mode tile none =
    let P = IsNotCalled config_instance_name in
    none_named (tile_items mode tile) config_instance_name
    (all_of_items mode tile P (λ target e. tt) (all_of (λ name. P (wire Scalar name)) (matrix_names tile) (λ name. tt)) (λ some. tt)
    (λ some. absurd (none some))
    (λ some. told_apart 4 matrix_instance_name config_instance_name refl)
    (λ place low bel listed. told_apart 4 (bel_instance_name place) config_instance_name refl))

-- a tile whose configuration declares a point has configuration bits
pub config_has_bits : (mode : Mode) (text : List PlainModule) (path : Path) (tile : PlainTile) (name : List ℕ) (bit : ℕ) →
    module_at text path ≡ Some (tile_module mode tile) →
    is_declared text (point (config_instance_name ∷ path) name bit) ≡ true → 0 < tile_bits tile
config_has_bits mode text path tile name bit stands declared =
    elim (cases_lt 0 (tile_bits tile)) [
      | inl some ↦ some
      | inr none ↦ (
          let gone : module_at text (config_instance_name ∷ path) ≡ None =
          ap (λ m. module_of text (instance_in m config_instance_name)) stands
          ∙ ap (module_of text) (no_config_instance mode tile (λ some. omega (arith, some, none))) in
          let below : bit < 0 = ltb-true bit 0 (sym (ap (λ m. nat_lt bit (width_in m name)) gone) ∙ declared) in
          absurd (omega (arith, below)))
    ]

-- ---- the wire of the configuration bits

abbrev IsOther : Port → Type 0
IsOther port = port.name ≢ bits_name

other_borders : (row : WireRow) → All IsOther (border_ports row)
other_borders row =
    let begins = counted (side_border row row.source) (λ bit. scalar false (begin_name row bit)) in
    let ends = counted (side_border row row.dest) (λ bit. scalar true (end_name row bit)) in
    all_if IsOther (is_jump row.dir) [] (begins ++ ends) (All-nil IsOther)
    (All-append IsOther begins ends
    (all_counted IsOther (side_border row row.source) (λ bit. scalar false (begin_name row bit)) (λ bit few. told_apart 4 (begin_name row bit) bits_name refl))
    (all_counted IsOther (side_border row row.dest) (λ bit. scalar true (end_name row bit)) (λ bit few. told_apart 4 (end_name row bit) bits_name refl)))

other_pads : (place : ℕ) (kind : Kind) → All IsOther (pad_ports place kind)
other_pads place kind =
    let in_port = λ (port : List ℕ). scalar true (pad_name place port) in
    let out_port = λ (port : List ℕ). scalar false (pad_name place port) in
    All-append IsOther (map in_port (top_inputs kind)) (map out_port (top_outputs kind))
    (All-map IsOther in_port (top_inputs kind) (all_of (λ (port : List ℕ). IsOther (in_port port)) (top_inputs kind) (λ port. told_apart 4 (pad_name place port) bits_name refl)))
    (All-map IsOther out_port (top_outputs kind) (all_of (λ (port : List ℕ). IsOther (out_port port)) (top_outputs kind) (λ port. told_apart 4 (pad_name place port) bits_name refl)))

other_ports : (mode : Mode) (tile : PlainTile) → All IsOther (tile_ports mode tile)
other_ports mode tile =
    let bel_pads = λ (placed : ℕ × Bel). pad_ports placed.0 placed.1.kind in
    let others = flat_map border_ports tile.rows ++ bels_ports tile.bels in
    let carried : All IsOther (config_ports mode) =
    each_mode IsOther
    (each_all IsOther (config_ports modes.Frames) (told_apart 0 frame_data_name bits_name refl, (told_apart 0 frame_strobe_name bits_name refl, tt)))
    (each_all IsOther (config_ports modes.Chain) (
      told_apart 0 clock_name bits_name refl,
      (told_apart 0 write_strobe_name bits_name refl, (told_apart 4 chain_in_name bits_name refl, (told_apart 4 chain_out_name bits_name refl, tt))),
    ))
    mode in
    All-cons IsOther (scalar true user_clock_name) (config_ports mode ++ others) (told_apart 0 user_clock_name bits_name refl)
    (All-append IsOther (config_ports mode) others carried
    (All-append IsOther (flat_map border_ports tile.rows) (bels_ports tile.bels)
    (all_flat_map IsOther border_ports tile.rows (all_of (λ (row : WireRow). All IsOther (border_ports row)) tile.rows other_borders))
    (all_flat_map IsOther bel_pads (enumerate_from 0 tile.bels)
    (all_of (λ (placed : ℕ × Bel). All IsOther (bel_pads placed)) (enumerate_from 0 tile.bels) (λ placed. other_pads placed.0 placed.1.kind)))))

-- a tile that has the wire has configuration bits
pub wire_has_bits : (mode : Mode) (tile : PlainTile) → 0 < tile_width mode tile bits_name → 0 < tile_bits tile
wire_has_bits mode tile wide =
    let P : List ℕ → Type 0 = λ name. name ≡ bits_name → 0 < tile_bits tile in
    let ports : All (λ (port : Port). P port.name) (tile_ports mode tile) =
    All-weaker IsOther (λ (port : Port). P port.name) (λ port other same. absurd (other same)) (tile_ports mode tile) (other_ports mode tile) in
    let wires : All (λ name. NetHolds P (wire Scalar name)) (matrix_names tile) =
    All-weaker EndsLow P (λ name low same. absurd (low_apart name bits_name low refl same)) (matrix_names tile) (low_names tile) in
    declared_holds P bits_name (tile_ports mode tile) (tile_items mode tile) ports
    (all_of_items mode tile (NetHolds P) (λ target e. tt) wires (λ some same. some) (λ some. tt) (λ some. tt) (λ place low bel listed. tt))
    wide refl
