-- The configuration points are loading points.
use Rattle.std.proofs.Common.{◌≡◌, ◌≢◌, ℕ, zero, suc, ◌+◌, ◌<◌, ◌≤◌, true, false, List, [], ◌∷◌, ◌++◌, codes, length, map, get_or, refl, sym, ap, ◌∙◌, subst, inl, inr, arith, nat_eq, slice_get, Some, All, Contains, if◌then◌else◌}
use Rattle.std.specs.List.{flat_map, enumerate_from}
use Rattle.std.specs.Str.{bytes_eq}
use Rattle.std.proofs.lemmas.Bool.{cases_Bool, false≢true}
use Rattle.std.proofs.lemmas.Bool.Decides.{nat_tests}
use Rattle.std.proofs.lemmas.List.Elements.{All-nil, All-cons, All-append, All-contains, All-weaker, Contains-append_left, Contains-append_right}
use Rattle.fab_kinds.specs.declared.kind.Kind.{Kind}
use Rattle.fab_kinds.specs.declared.kind.Kind.TheVariants as kinds
use Rattle.fab_kinds.specs.Pins.{bit_count}
use Rattle.fab_select.specs.declared.pair.Pair.{Pair}
use Rattle.fab_select.specs.Selection.{select_bits}
use Rattle.fab_syntax.specs.declared.tree.Shape.{Shape}
use Rattle.fab_syntax.specs.declared.tree.Shape.TheVariants.{Scalar, Vector}
use Rattle.fab_syntax.specs.declared.tree.Port.{Port}
use Rattle.fab_syntax.specs.Plain.{PlainItem, PlainModule, part, reg}
use Rattle.fab_syntax.specs.Declarations.{declared_width, module_named, item_shape, width, width_if_any}
use Rattle.fab_meaning.specs.Points.{Path, Point, point, module_at}
use Rattle.fab_meaning.specs.Runs.{clock_name}
use Rattle.fab_meaning.specs.Loading as loading
use Rattle.fab_meaning.specs.Loading.{IsLoading, write_data_name, write_strobe_name}
use Rattle.fab_meaning.proofs.Dependence.{same_name}
use Rattle.fab_meaning.proofs.Modules.{each_all}
use Rattle.fab_meaning.specs.Ports.{config_name}
use Rattle.fab_model.specs.declared.mode.Mode.{Mode}
use Rattle.fab_model.specs.declared.mode.Mode.TheVariants as modes
use Rattle.fab_model.specs.declared.tiles.Bel.{Bel}
use Rattle.fab_model.specs.Tiles.{PlainTile, matrix_names, numbered_pairs, pair_numbers, bel_bits, tile_bits, counted, is_matrix_output, IsPair, IsTile, bits_before}
use Rattle.fab_model.specs.Grid.{PlainFabric, tile_at}
use Rattle.fab_model.proofs.Wires.{number_has_wire}
use Rattle.fab_fabric.specs.Fabric.{IsFabric, AreTiles}
use Rattle.fab_prim.specs.Modules.{module_name, module_of_kind}
use Rattle.fab_use_defs.specs.fab_gen_tile_Names.{config_instance_name, matrix_module_name, matrix_instance_name, bel_instance_name, bits_name, latch_name, same_join}
use Rattle.fab_use_defs.specs.fab_gen_tile_ConfigModule.{chain_ports, config_items, config_module, config_ports, frame_ports}
use Rattle.fab_use_defs.specs.fab_gen_tile_TileModule.{bits_join, bel_joins, matrix_input_names, matrix_output_names, matrix_joins, tile_items, tile_module, tile_ports}
use Rattle.fab_use_defs.specs.fab_gen_tile_MatrixModule.{named_pairs, matrix_module}
use Rattle.fab_use_defs.specs.fab_gen_loader_Loader as loaders
use Rattle.fab_use_defs.specs.fab_gen_loader_Loader.{NextValues, loader_of, registers, processes, outputs, loader_ports, strobe_register_name, address_port, strobe_port, row_port}
use Rattle.fab_use_defs.specs.fab_fabric_text_defs_Mode.{text_mode}
use Rattle.fab_use_defs.specs.fab_fabric_text_defs_Names.{chain_wire_name, column_strobe_name}
use Rattle.fab_use_defs.specs.fab_fabric_text_defs_Places.{PlacedTile, placed_tiles}
use Rattle.fab_fabric.specs.Sites.{same_kind}
use Rattle.fab_use_defs.specs.fab_fabric_text_defs_Top.{top_module}
use Rattle.fab_use_defs.specs.fab_tile_drives_laws_Stands.{TileStands, matrix_path, bel_path}
use Rattle.fab_use_defs.proofs.fab_tile_drives_laws_Endings.{all_flat_map, all_counted}
use Rattle.fab_use_defs.proofs.fab_tile_drives_laws_Members.{contains_at, contains_counted, contains_first, contains_later, contains_map}
use Rattle.fab_use_defs.proofs.fab_tile_drives_laws_Modes.{bits_port}
use Rattle.fab_use_defs.proofs.fab_tile_drives_laws_Widths.{passed_ports}
use Rattle.fab_use_defs.proofs.fab_tile_drives_laws_TileNames.{bits_wide}
use Rattle.fab_use_defs.proofs.fab_tile_drives_laws_TileItems.{matrix_found, matrix_there, bel_found, bel_there}
use Rattle.fab_use_defs.proofs.fab_tile_drives_laws_Driven.{width_of, declared_at}
use Rattle.fab_use_defs.proofs.fab_tile_drives_laws_Latches.{latch_width}
use Rattle.fab_use_defs.proofs.fab_tile_drives_laws_BitValues.{inside}
use Rattle.fab_use_defs.proofs.fab_tile_drives_laws_MatrixPorts.{bits_input, bits_width}
use Rattle.fab_use_defs.proofs.fab_tile_drives_laws_NamedPairs.{bits_same}
use Rattle.fab_use_defs.proofs.fab_tile_drives_laws_PinPorts.{config_input, config_width, config_joined, bits_within}
use Rattle.fab_use_defs.specs.fab_drives_laws_Points.{place_path}
use Rattle.fab_use_defs.proofs.fab_drives_laws_Apart.{told_apart}
use Rattle.fab_use_defs.proofs.fab_drives_laws_Modules.{tile_of_types}
use Rattle.fab_use_defs.proofs.fab_drives_laws_Places.{IsThere, all_placed}
use Rattle.fab_use_defs.proofs.fab_drives_laws_Texts.{HasFabric}
use Rattle.fab_use_defs.specs.fab_text_loads_laws_Points.{loader_path, config_path, tile_names, top_names, IsLoadingPoint, in_top, in_loader, in_tile, in_configuration}
use Rattle.fab_use_defs.specs.fab_fabric_text_defs_Texts.{IsFabricText}
use Rattle.fab_use_defs.proofs.fab_text_loads_laws_Drivers.{assigned_by}
use Rattle.fab_use_defs.proofs.fab_text_loads_laws_Carried.{Carries, carried}
use Rattle.fab_use_defs.proofs.fab_text_loads_laws_InMode.{config_in}
use Rattle.fab_use_defs.proofs.fab_text_loads_laws_Loader.{has_loader, row_port_width, strobe_register_width}
use Rattle.fab_use_defs.proofs.fab_text_loads_laws_Tops.{address_width, strobe_width, row_width, column_width, chain_wire_width}
use Rattle.fab_use_defs.proofs.fab_text_loads_laws_Within.{AreWithin, expression_within, only_name}
use Rattle.fab_use_defs.specs.Configuration.{NamedBits, named_bits, if_some_bits, port_names, top_configuration, loader_configuration, chain_configuration, carrying_configuration, bits_configuration, matrix_configuration, bel_configuration, tile_configuration, configuration, IsConfigurationPoint}
use Rattle.fab_points_laws.proofs.Loading.{loads, instance_loads}
use Rattle.fab_points_laws.proofs.Places.{outputs_there, passing_plain}

-- a counted register is found with its shape
reg_found : (shape : Shape) (f : ℕ → List ℕ) (rest : List PlainItem) (n i : ℕ) → i < n → item_shape (counted n (λ k. reg shape (f k)) ++ rest) (f i) ≡ Some shape
unfolding counted
reg_found shape f rest zero i within = absurd (omega arith)
reg_found shape f rest (suc n) zero within = rw (same_name (f 0)) refl
reg_found shape f rest (suc n) (suc i) within =
    elim (cases_Bool (bytes_eq (f 0) (f (suc i)))) [
      | inl same ↦ rw same refl
      | inr other ↦ rw other (reg_found shape (λ k. f (suc k)) rest n i (omega arith))
    ]

-- a name that begins in a small letter is no port of the loader
pub loader_net : (rows : ℕ) (next : NextValues) (name : List ℕ) → nat_eq 67 (get_or name 0 0) ≡ false → nat_eq 87 (get_or name 0 0) ≡ false → nat_eq 65 (get_or name 0 0) ≡ false →
    nat_eq 83 (get_or name 0 0) ≡ false → nat_eq 82 (get_or name 0 0) ≡ false → width_of (loader_of rows next) name ≡ width_if_any (item_shape (loader_of rows next).items name)
loader_net rows next name no_clock no_write no_address no_strobe no_row =
    let Differs : Port → Type 0 = λ other. other.name ≢ name in
    let front : List Port =
    loaders.port true Scalar clock_name ∷ loaders.port true Scalar loading.write_strobe_name ∷ loaders.port true (Vector 32) write_data_name
    ∷ loaders.port false (Vector 32) address_port ∷ loaders.port false Scalar strobe_port ∷ [] in
    let of_rows = counted rows (λ row. loaders.port false (Vector 32) (row_port row)) in
    passed_ports (loader_ports rows) (loader_of rows next).items name
    (All-append Differs front of_rows
    (each_all Differs front (
      told_apart 0 clock_name name no_clock,
      (told_apart 0 loading.write_strobe_name name no_write, (told_apart 0 write_data_name name no_write, (told_apart 0 address_port name no_address, (told_apart 0 strobe_port name no_strobe, tt)))),
    ))
    (all_counted Differs rows (λ row. loaders.port false (Vector 32) (row_port row)) (λ row few. told_apart 0 (row_port row) name no_row)))

address_register_width : (rows : ℕ) (next : NextValues) → width_of (loader_of rows next) loaders.address_register_name ≡ 32
address_register_width rows next = loader_net rows next loaders.address_register_name refl refl refl refl refl

row_register_width : (rows : ℕ) (next : NextValues) (row : ℕ) → row < rows → width_of (loader_of rows next) (loaders.row_register_name row) ≡ 32
row_register_width rows next row few =
    loader_net rows next (loaders.row_register_name row) refl refl refl refl refl
    ∙ ap width_if_any (reg_found (Vector 32) loaders.row_register_name (processes rows next ++ outputs rows) rows row few)

-- ---- tiles with select bits

some_pairs : (pairs : List Pair) → 0 < select_bits nat_eq (map pair_numbers pairs) → 0 < length pairs
some_pairs [] some = absurd (omega arith)
some_pairs (pair ∷ pairs) some = omega arith

pub selects_outputs : (tile : PlainTile) → IsTile tile → 0 < select_bits nat_eq (numbered_pairs tile) → 0 < length (matrix_output_names tile)
selects_outputs tile is some =
    let few = some_pairs tile.pairs some in
    let first = get_or tile.pairs 0 (record { output = 0; input = 0 }) in
    let pair : IsPair tile first = is.pairs 0 (record { output = 0; input = 0 }) few in
    let out = passing_plain is_matrix_output tile first.output pair.output in
    outputs_there tile out.0 (number_has_wire tile first.output out.0 out.1).0 out.2

-- ---- lists

enumerated : {X : Type 0} (first : ℕ) (xs : List X) → All (λ (placed : ℕ × X). (k : ℕ) × (placed.0 ≡ first + k) × (slice_get xs k ≡ Some placed.1)) (enumerate_from first xs)
enumerated {X} first [] = All-nil _
enumerated {X} first (x ∷ xs) =
    let number : first ≡ first + 0 = omega arith in
    All-cons (λ (placed : ℕ × X). (k : ℕ) × (placed.0 ≡ first + k) × (slice_get (x ∷ xs) k ≡ Some placed.1)) (first, x) (enumerate_from (first + 1) xs) (0, number, refl)
    (All-weaker (λ (placed : ℕ × X). (k : ℕ) × (placed.0 ≡ first + 1 + k) × (slice_get xs k ≡ Some placed.1)) (λ (placed : ℕ × X). (k : ℕ) × (placed.0 ≡ first + k) × (slice_get (x ∷ xs) k ≡ Some placed.1))
    (λ placed at. let before = at.1 in (suc at.0, omega (arith, before), at.2)) (enumerate_from (first + 1) xs) (enumerated (first + 1) xs))

same_lut : (kind : Kind) → same_kind kind kinds.Lut4c ≡ true → kind ≡ kinds.Lut4c
same_lut kinds.Lut4c is = refl
same_lut kinds.Io is = absurd (false≢true is)
same_lut kinds.Mux8 is = absurd (false≢true is)

-- ---- ports by which bits come

all_mapped : {X Y : Type 0} (P : Y → Type 0) (f : X → Y) (xs : List X) → ((x : X) → Contains xs x → P (f x)) → All P (map f xs)
all_mapped P f [] each = All-nil P
all_mapped P f (x ∷ xs) each = All-cons P (f x) (map f xs) (each x (contains_first x xs)) (all_mapped P f xs (λ y there. each y (contains_later x xs y there)))

-- they stand in front of all ports of a tile, and of its configuration
abbrev HasWidth : List Port → List PlainItem → Port → Type 0
HasWidth ports items port = declared_width ports items port.name ≡ width port.shape

port_width : (mode : Mode) (tile : PlainTile) (port : Port) → Contains (config_ports mode) port → width_of (tile_module mode tile) port.name ≡ width port.shape
port_width modes.Frames tile port among =
    All-contains (HasWidth (tile_ports modes.Frames tile) (tile_items modes.Frames tile)) frame_ports port
    (each_all (HasWidth (tile_ports modes.Frames tile) (tile_items modes.Frames tile)) frame_ports (refl, (refl, tt))) among
port_width modes.Chain tile port among =
    All-contains (HasWidth (tile_ports modes.Chain tile) (tile_items modes.Chain tile)) chain_ports port
    (each_all (HasWidth (tile_ports modes.Chain tile) (tile_items modes.Chain tile)) chain_ports (refl, (refl, (refl, (refl, tt))))) among

config_port_width : (mode : Mode) (tile : PlainTile) (port : Port) → Contains (config_ports mode) port → width_of (config_module mode tile) port.name ≡ width port.shape
config_port_width modes.Frames tile port among =
    let ports = (config_module modes.Frames tile).ports in
    All-contains (HasWidth ports (config_items modes.Frames tile)) frame_ports port
    (each_all (HasWidth ports (config_items modes.Frames tile)) frame_ports (refl, (refl, tt))) among
config_port_width modes.Chain tile port among =
    let ports = (config_module modes.Chain tile).ports in
    All-contains (HasWidth ports (config_items modes.Chain tile)) chain_ports port
    (each_all (HasWidth ports (config_items modes.Chain tile)) chain_ports (refl, (refl, (refl, (refl, tt))))) among

port_named : (mode : Mode) (port : Port) → Contains (config_ports mode) port → Contains (tile_names mode) port.name
port_named mode port among =
    Contains-append_left (map (λ (p : Port). p.name) (config_ports mode)) (bits_name ∷ []) port.name (contains_map (λ (p : Port). p.name) (config_ports mode) port among)

bits_named : (mode : Mode) → Contains (tile_names mode) bits_name
bits_named mode = Contains-append_right (map (λ (p : Port). p.name) (config_ports mode)) (bits_name ∷ []) bits_name (contains_first bits_name [])

-- the wires of a chain stand among the names of the top
wire_named : (fabric : PlainFabric) (placed : PlacedTile) → Contains (placed_tiles fabric) placed → Contains (top_names modes.Chain fabric) (chain_wire_name placed.x placed.y)
wire_named fabric placed listed =
    let wires = map (λ (p : PlacedTile). chain_wire_name p.x p.y) (placed_tiles fabric) in
    Contains-append_right (clock_name ∷ write_strobe_name ∷ write_data_name ∷ []) wires (chain_wire_name placed.x placed.y)
    (contains_map (λ (p : PlacedTile). chain_wire_name p.x p.y) (placed_tiles fabric) placed listed)

-- ---- all of them

module _ (fabric : PlainFabric) (text : List PlainModule) (is : IsFabric fabric) (are : AreTiles fabric) (is_text : IsFabricText fabric text) where
  abbrev mode : Mode
  mode = text_mode fabric

  carries : Carries fabric text
  carries = carried fabric text is is_text

  abbrev has : HasFabric fabric text
  has = carries.tiles

  -- the bits of a name are loading points
  abbrev Loads : NamedBits → Type 0
  Loads n = (bit : ℕ) → bit < n.width → IsLoading text (point n.path n.name bit)

  by_name : (path : Path) (m : PlainModule) (name : List ℕ) (width : ℕ) → module_at text path ≡ Some m → width_of m name ≡ width →
      ((bit : ℕ) → IsLoadingPoint fabric (point path name bit)) → Loads (named_bits path name width)
  by_name path m name width stands wide listed bit few =
      (carries.flops, carries.closed, carries.named (point path name bit) (listed bit) (declared_at text path m name bit stands (omega (arith, few, wide))))

  -- a point of the top by its name, where the mode is known by another word
  named_top : (other : Mode) → mode ≡ other → (name : List ℕ) → Contains (top_names other fabric) name → (bit : ℕ) → IsLoadingPoint fabric (point [] name bit)
  named_top other same name listed bit = in_top refl (subst (λ (m : Mode). Contains (top_names m fabric) name) (sym same) listed)

  top_loads : mode ≡ modes.Frames → All Loads (top_configuration fabric)
  top_loads frames =
      let top = top_module fabric in
      let rows = counted fabric.rows row_port in
      let columns = counted fabric.columns column_strobe_name in
      let fixed : List (List ℕ) = clock_name ∷ write_strobe_name ∷ write_data_name
      ∷ address_port ∷ strobe_port ∷ [] in
      let more = counted fabric.rows (λ y. named_bits [] (row_port y) 32) ++ counted fabric.columns (λ x. named_bits [] (column_strobe_name x) 20) in
      All-cons Loads (named_bits [] address_port 32) (named_bits [] strobe_port 1 ∷ more)
      (by_name [] top address_port 32 has.top_is (address_width fabric frames) (named_top modes.Frames frames address_port (3, omega arith, refl)))
      (All-cons Loads (named_bits [] strobe_port 1) more (by_name [] top strobe_port 1 has.top_is (strobe_width fabric frames) (named_top modes.Frames frames strobe_port (4, omega arith, refl)))
      (All-append Loads (counted fabric.rows (λ y. named_bits [] (row_port y) 32)) (counted fabric.columns (λ x. named_bits [] (column_strobe_name x) 20))
      (all_counted Loads fabric.rows (λ y. named_bits [] (row_port y) 32) (λ y few.
      by_name [] top (row_port y) 32 has.top_is (row_width fabric frames y few) (named_top modes.Frames frames (row_port y)
      (Contains-append_right fixed (rows ++ columns) (row_port y) (Contains-append_left rows columns (row_port y) (contains_counted fabric.rows row_port y few))))))
      (all_counted Loads fabric.columns (λ x. named_bits [] (column_strobe_name x) 20) (λ x few.
      by_name [] top (column_strobe_name x) 20 has.top_is (column_width fabric frames x few) (named_top modes.Frames frames (column_strobe_name x)
      (Contains-append_right fixed (rows ++ columns) (column_strobe_name x) (Contains-append_right rows columns (column_strobe_name x) (contains_counted fabric.columns column_strobe_name x few))))))))

  loader_loads : mode ≡ modes.Frames → All Loads (loader_configuration fabric)
  loader_loads frames =
      let rows = fabric.rows in
      let found = has_loader fabric text is is_text frames in
      let next = found.0 in
      let made = loader_of rows next in
      let front : List NamedBits = named_bits loader_path address_port 32 ∷ named_bits loader_path strobe_port 1 ∷ named_bits loader_path loaders.address_register_name 32 ∷ named_bits loader_path strobe_register_name 1 ∷ [] in
      let of_name : (name : List ℕ) (width : ℕ) → width_of made name ≡ width → Loads (named_bits loader_path name width) = λ name width wide. by_name loader_path made name width found.1.stands wide (λ bit. in_loader refl) in
      All-append Loads front (counted rows (λ r. named_bits loader_path (row_port r) 32) ++ counted rows (λ r. named_bits loader_path (loaders.row_register_name r) 32))
      (each_all Loads front (
        of_name address_port 32 refl,
        (
          of_name strobe_port 1 refl,
          (of_name loaders.address_register_name 32 (address_register_width rows next), (of_name strobe_register_name 1 (strobe_register_width rows next), tt)),
        ),
      ))
      (All-append Loads (counted rows (λ r. named_bits loader_path (row_port r) 32)) (counted rows (λ r. named_bits loader_path (loaders.row_register_name r) 32))
      (all_counted Loads rows (λ r. named_bits loader_path (row_port r) 32) (λ r few. of_name (row_port r) 32 (row_port_width rows next r few)))
      (all_counted Loads rows (λ r. named_bits loader_path (loaders.row_register_name r) 32) (λ r few. of_name (loaders.row_register_name r) 32 (row_register_width rows next r few))))

  chain_loads : mode ≡ modes.Chain → All Loads (chain_configuration fabric)
  chain_loads chain =
      all_mapped Loads (λ (placed : PlacedTile). named_bits [] (chain_wire_name placed.x placed.y) 1) (placed_tiles fabric)
      (λ placed listed. by_name [] (top_module fabric) (chain_wire_name placed.x placed.y) 1 has.top_is (chain_wire_width fabric chain placed listed)
      (named_top modes.Chain chain (chain_wire_name placed.x placed.y) (wire_named fabric placed listed)))

  -- what carries the bits to the tiles
  carrying_loads : (other : Mode) → mode ≡ other → All Loads (carrying_configuration other fabric)
  carrying_loads modes.Frames frames = All-append Loads (top_configuration fabric) (loader_configuration fabric) (top_loads frames) (loader_loads frames)
  carrying_loads modes.Chain chain = chain_loads chain

  module _ (x y : ℕ) (tile : PlainTile) (there : tile_at fabric x y ≡ Some tile) where
    abbrev path : Path
    path = place_path x y

    abbrev stands : TileStands mode text path tile
    stands = has.stands x y tile there

    is_tile : IsTile tile
    is_tile = All-contains IsTile fabric.types tile are (tile_of_types fabric x y tile there)

    in_tile_loads : (name : List ℕ) (width : ℕ) → width_of (tile_module mode tile) name ≡ width → Contains (tile_names mode) name → Loads (named_bits path name width)
    in_tile_loads name width wide among = by_name path (tile_module mode tile) name width stands.tile_is wide (λ bit. in_tile x y tile there refl among)

    -- the ports by which the bits come
    ports_load : All Loads (port_names mode path)
    ports_load =
        all_mapped Loads (λ (port : Port). named_bits path port.name (width port.shape)) (config_ports mode)
        (λ port among. in_tile_loads port.name (width port.shape) (port_width mode tile port among) (port_named mode port among))

    -- ---- what keeps the bits

    bits_load : All Loads (bits_configuration mode path tile)
    bits_load = elim (cases_Bool (nat_eq (tile_bits tile) 0)) [ inl none ↦ rw none (All-nil Loads) | inr some ↦ rw some (of_some (let more : 0 < tile_bits tile = grind (arith, nat_tests) in more)) ]
      where
        inner : Path
        inner = config_path x y

        of_name : 0 < tile_bits tile → (name : List ℕ) (wide : ℕ) → width_of (config_module mode tile) name ≡ wide → Loads (named_bits (config_path x y) name wide)
        of_name some name wide is_wide =
            by_name (config_path x y) (config_module mode tile) name wide (config_in fabric mode refl text has x y tile there some) is_wide
            (λ bit. in_configuration x y tile there refl)

        of_some : 0 < tile_bits tile → All Loads (named_bits path bits_name (tile_bits tile) ∷ named_bits (config_instance_name ∷ path) config_name (tile_bits tile)
            ∷ (port_names mode (config_instance_name ∷ path) ++ counted (tile_bits tile) (λ bit. named_bits (config_instance_name ∷ path) (latch_name bit) 1)))
        of_some some =
            let ports = port_names mode inner in
            let kept = counted (tile_bits tile) (λ bit. named_bits inner (latch_name bit) 1) in
            All-cons Loads (named_bits path bits_name (tile_bits tile)) (named_bits inner config_name (tile_bits tile) ∷ (ports ++ kept))
            (in_tile_loads bits_name (tile_bits tile) (bits_wide mode tile some) (bits_named mode))
            (All-cons Loads (named_bits inner config_name (tile_bits tile)) (ports ++ kept)
            (of_name some config_name (tile_bits tile) (bits_port mode (tile_bits tile) (config_items mode tile)))
            (All-append Loads ports kept
            (all_mapped Loads (λ (port : Port). named_bits inner port.name (width port.shape)) (config_ports mode)
            (λ port among. of_name some port.name (width port.shape) (config_port_width mode tile port among)))
            (all_counted Loads (tile_bits tile) (λ bit. named_bits inner (latch_name bit) 1) (λ bit few. of_name some (latch_name bit) 1 (latch_width mode tile bit few)))))

    -- ---- where bits are used

    matrix_loads : All Loads (matrix_configuration path tile)
    matrix_loads =
        elim (cases_Bool (nat_eq (select_bits nat_eq (numbered_pairs tile)) 0)) [
          | inl none ↦ rw none (All-nil Loads)
          | inr some ↦ rw some (All-cons Loads (named_bits (matrix_path path) config_name (select_bits nat_eq (numbered_pairs tile))) [] (of_some (let more : 0 < select_bits nat_eq (numbered_pairs tile) = grind (arith, nat_tests) in more)) (All-nil Loads))
        ]
      where
        of_some : 0 < select_bits nat_eq (numbered_pairs tile) → Loads (named_bits (matrix_path (place_path x y)) config_name (select_bits nat_eq (numbered_pairs tile)))
        of_some some bit few =
            let outputs = selects_outputs tile is_tile some in
            let inner = matrix_module tile in
            let count = select_bits nat_eq (numbered_pairs tile) in
            let here : module_at text (matrix_path path) ≡ Some inner = inside mode text path tile matrix_instance_name _ inner stands.tile_is (matrix_found mode tile outputs) (stands.matrix_is outputs) in
            let same : select_bits nat_eq (named_pairs tile) ≡ count = bits_same (matrix_names tile) tile.pairs in
            let wide : width_of inner config_name ≡ select_bits nat_eq (named_pairs tile) = bits_width tile (omega arith) in
            loads fabric text carries x y tile there (matrix_path path) config_name bit
            (instance_loads fabric text carries x y tile there (omega arith) inner (matrix_module_name tile) matrix_instance_name (matrix_joins tile) here (stands.matrix_is outputs)
            (matrix_there mode tile outputs) (bits_input tile (omega arith)) (bel_bits tile) count
            (λ join among. Contains-append_right (map same_join (matrix_input_names tile)) (bits_join (bel_bits tile) count ++ map same_join (matrix_output_names tile)) join
            (Contains-append_left (bits_join (bel_bits tile) count) (map same_join (matrix_output_names tile)) join among)) some)
            (declared_at text (matrix_path path) inner config_name bit here (omega arith))

    module _ (number : ℕ) (bel : Bel) (at : slice_get tile.bels number ≡ Some bel) where
      of_kind : module_named text (module_name bel.kind) ≡ Some (module_of_kind bel.kind)
      of_kind =
          All-contains (λ (b : Bel). module_named text (module_name b.kind) ≡ Some (module_of_kind b.kind)) tile.bels bel stands.kinds_are (contains_at tile.bels number bel at)

      bel_here : module_at text (bel_path path number) ≡ Some (module_of_kind bel.kind)
      bel_here = inside mode text path tile (bel_instance_name number) _ (module_of_kind bel.kind) stands.tile_is (bel_found mode tile number bel at) of_kind

      bel_are : 0 < bit_count bel.kind → AreWithin text carries.flops (bel_path path number) config_name
      bel_are some =
          let low = bits_before tile.bels number in
          let enough : low + bit_count bel.kind ≤ bel_bits tile = bits_within tile.bels number bel at in
          instance_loads fabric text carries x y tile there (omega arith) (module_of_kind bel.kind) (module_name bel.kind) (bel_instance_name number) (bel_joins number low bel) bel_here of_kind
          (bel_there mode tile number bel at) (config_input bel.kind some) low (bit_count bel.kind) (config_joined number low bel) some

      pub config_load : 0 < bit_count bel.kind → Loads (named_bits (bel_path path number) config_name (bit_count bel.kind))
      config_load some bit few =
          let width : width_of (module_of_kind bel.kind) config_name ≡ bit_count bel.kind = config_width bel.kind some in
          loads fabric text carries x y tile there (bel_path path number) config_name bit (bel_are some)
          (declared_at text (bel_path path number) (module_of_kind bel.kind) config_name bit bel_here (omega arith))

      table_load : bel.kind ≡ kinds.Lut4c → Loads (named_bits (bel_path path number) (codes "init") 16)
      table_load kind_is bit few =
          let lut = module_of_kind kinds.Lut4c in
          let here : module_at text (bel_path path number) ≡ Some lut = bel_here ∙ ap (λ kind. Some (module_of_kind kind)) kind_is in
          let some : 0 < bit_count bel.kind = subst (λ kind. 0 < bit_count kind) (sym kind_is) (omega arith) in
          loads fabric text carries x y tile there (bel_path path number) (codes "init") bit
          (λ other declared. expression_within text carries.flops (point (bel_path path number) (codes "init") other) (bel_path path number) (part config_name 15 0) other declared
          (assigned_by text (bel_path path number) lut here (codes "init") (part config_name 15 0) other (4, omega arith, refl))
          (only_name text carries.flops (bel_path path number) config_name (bel_are some)))
          (declared_at text (bel_path path number) lut (codes "init") bit here few)

      bel_load : All Loads (bel_configuration path (number, bel))
      bel_load =
          All-append Loads (if_some_bits (named_bits (bel_path path number) config_name (bit_count bel.kind)))
          (if same_kind bel.kind kinds.Lut4c then named_bits (bel_path path number) (codes "init") 16 ∷ [] else [])
          (elim (cases_Bool (nat_eq (bit_count bel.kind) 0)) [
            | inl none ↦ rw none (All-nil Loads)
            | inr some ↦ rw some (All-cons Loads (named_bits (bel_path path number) config_name (bit_count bel.kind)) [] (config_load (let more : 0 < bit_count bel.kind = grind (arith, nat_tests) in more)) (All-nil Loads))
          ])
          (elim (cases_Bool (same_kind bel.kind kinds.Lut4c)) [
            | inl lut ↦ rw lut (All-cons Loads (named_bits (bel_path path number) (codes "init") 16) [] (table_load (same_lut bel.kind lut)) (All-nil Loads))
            | inr other ↦ rw other (All-nil Loads)
          ])

    bels_load : All Loads (flat_map (bel_configuration path) (enumerate_from 0 tile.bels))
    bels_load =
        all_flat_map Loads (bel_configuration path) (enumerate_from 0 tile.bels)
        (All-weaker (λ (placed : ℕ × Bel). (k : ℕ) × (placed.0 ≡ 0 + k) × (slice_get tile.bels k ≡ Some placed.1)) (λ (placed : ℕ × Bel). All Loads (bel_configuration path placed))
        (λ placed at. let number : at.0 ≡ placed.0 = (let e = at.1 in omega (arith, e)) in bel_load placed.0 placed.1 (ap (slice_get tile.bels) (sym number) ∙ at.2))
        (enumerate_from 0 tile.bels) (enumerated 0 tile.bels))

    tile_loads : All Loads (tile_configuration mode (place_path x y) tile)
    tile_loads =
        let matrix = matrix_configuration path tile in
        let bels = flat_map (bel_configuration path) (enumerate_from 0 tile.bels) in
        All-append Loads (port_names mode path) (bits_configuration mode path tile ++ (matrix ++ bels)) ports_load
        (All-append Loads (bits_configuration mode path tile) (matrix ++ bels) bits_load (All-append Loads matrix bels matrix_loads bels_load))

  abbrev of_placed : PlacedTile → List NamedBits
  of_placed placed = tile_configuration mode (place_path placed.x placed.y) placed.tile

  configuration_loads : All Loads (configuration fabric)
  configuration_loads =
      let tiles = flat_map of_placed (placed_tiles fabric) in
      All-append Loads (carrying_configuration mode fabric) tiles (carrying_loads mode refl)
      (all_flat_map Loads of_placed (placed_tiles fabric)
      (All-weaker (IsThere fabric) (λ placed. All Loads (of_placed placed)) (λ placed there. tile_loads placed.x placed.y placed.tile there) (placed_tiles fabric) (all_placed fabric)))

  pub configuration_point_loads : (p : Point) → IsConfigurationPoint fabric p → IsLoading text p
  configuration_point_loads p (n, listed, is, few) =
      subst (IsLoading text) (sym is) (All-contains Loads (configuration fabric) n configuration_loads listed p.bit few)
