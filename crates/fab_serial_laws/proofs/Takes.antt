-- The text of a fabric in frames can have a serial port: the names are free, its top has the inputs, and WriteStrobe serves as no clock.
use Rattle.std.proofs.Common.{◌≡◌, ◌≢◌, ℕ, true, false, List, [], ◌∷◌, ◌++◌, map, Option, Some, None, All, refl, sym, ap, ◌∙◌, subst, arith}
use Rattle.std.specs.List.{flat_map, enumerate_from}
use Rattle.std.specs.Str.{bytes_eq}
use Rattle.std.proofs.lemmas.List.Elements.{All-nil, All-cons, All-head, All-tail, All-append, All-map, All-contains}
use Rattle.fab_kinds.specs.declared.kind.Kind.{Kind}
use Rattle.fab_syntax.specs.declared.tree.Shape.TheVariants.{Scalar, Vector}
use Rattle.fab_syntax.specs.declared.tree.Port.{Port}
use Rattle.fab_syntax.specs.Plain.{PlainJoin, PlainItem, PlainModule, constant, variable, reg, assign, clocked, instance}
use Rattle.fab_syntax.specs.Declarations.{module_named}
use Rattle.fab_syntax.specs.Sound.{ServesAsClock, ticks, leads}
use Rattle.fab_meaning.specs.Ports.{scalar}
use Rattle.fab_meaning.specs.Runs.{clock_name, user_clock_name}
use Rattle.fab_meaning.specs.Loading.{write_strobe_name, write_data_name}
use Rattle.fab_meaning.proofs.Declared.{bytes_apart}
use Rattle.fab_drives_laws.specs.fab_prim_Modules.{module_of_kind, module_name}
use Rattle.fab_drives_laws.specs.fab_prim_Ports.{top_inputs, top_outputs}
use Rattle.fab_drives_laws.specs.fab_model_tiles_Bel.{Bel}
use Rattle.fab_drives_laws.specs.fab_model_tiles_WireRow.{WireRow}
use Rattle.fab_model.specs.Cascade.{PlacedRow, previous_row}
use Rattle.fab_drives_laws.specs.fab_model_Rows.{is_jump}
use Rattle.fab_drives_laws.specs.fab_model_Tiles.{PlainTile, counted}
use Rattle.fab_drives_laws.specs.fab_model_mode_Mode.{Mode}
use Rattle.fab_drives_laws.specs.fab_model_mode_Mode_TheVariants as modes
use Rattle.fab_drives_laws.specs.fab_model_Grid.{PlainFabric}
use Rattle.fab_drives_laws.specs.fab_fabric_Fabric.{IsFabric}
use Rattle.fab_drives_laws.specs.fab_gen_tile_Borders.{side_border}
use Rattle.fab_drives_laws.specs.fab_gen_tile_Names.{config_module_name, matrix_module_name, tile_module_name, begin_name, end_name, pad_name, port_join, same_join, frame_data_name, frame_strobe_name}
use Rattle.fab_drives_laws.specs.fab_gen_loader_Loader.{NextValues, loader_module_name, address_port, strobe_port, row_port, state_name, count_name, address_register_name, strobe_register_name, row_register_name, registers, processes, outputs, loader_of}
use Rattle.fab_drives_laws.specs.fab_fabric_text_defs_Names.{top_module_name, pad_port_name, column_strobe_name, begin_wire_name}
use Rattle.fab_drives_laws.specs.fab_fabric_text_defs_Mode.{text_mode}
use Rattle.fab_drives_laws.specs.fab_fabric_text_defs_Places.{PlacedTile, placed_tiles}
use Rattle.fab_drives_laws.specs.fab_fabric_text_defs_Top.{pad_ports, tile_pads, data_shape, data_port, top_ports, loader_joins, end_value, numbered_row, row_joins, pad_joins, config_joins, tile_joins, top_items, top_module}
use Rattle.fab_drives_laws.specs.fab_fabric_text_defs_Text.{used_kinds, standing_types, tile_modules, fabric_text}
use Rattle.fab_drives_laws.specs.fab_fabric_text_defs_Texts.{AreLoaders, one, none, IsFabricText}
use Rattle.fab_drives_laws.proofs.fab_tile_drives_laws_Endings.{all_counted, all_flat_map}
use Rattle.fab_drives_laws.proofs.Lists.{all_of, all_if}
use Rattle.fab_drives_laws.proofs.Apart.{told_apart}
use Rattle.fab_drives_laws.proofs.Modules.{kind_apart, all_of_tile}
use Rattle.fab_drives_laws.proofs.Instances.{all_of_top}
use Rattle.fab_text_loads_laws.proofs.Loader.{has_loader}
use Rattle.fab_serial.proofs.fab_parts_sound_laws_Clocks.{ClocksBy, serves}
use Rattle.fab_serial.proofs.fab_parts_sound_laws_Names.{told_apart as names_differ}
use Rattle.fab_serial.specs.Module.{serial_module_name, serial_top_name, serial_strobe_name, serial_data_name, serial_instance_name, fabric_instance_name, IsFree, CanHaveSerialPort}

-- ---- names of modules

none_named : (text : List PlainModule) (name : List ℕ) → All (λ (m : PlainModule). m.name ≢ name) text → module_named text name ≡ None
none_named [] name differ = refl
none_named (m ∷ text) name differ =
    let past : bytes_eq m.name name ≡ false = bytes_apart m.name name (All-head (λ (n : PlainModule). n.name ≢ name) m text differ) in
    rw past (none_named text name (All-tail (λ (n : PlainModule). n.name ≢ name) m text differ))

-- a name of another first letter than those of kinds and tiles, which is neither a loader's nor the top's
module _ (name : List ℕ) (no_kind : (kind : Kind) → module_name kind ≢ name) (no_matrix : (tile : PlainTile) → matrix_module_name tile ≢ name)
    (no_config : (tile : PlainTile) → config_module_name tile ≢ name) (no_tile : (tile : PlainTile) → tile_module_name tile ≢ name)
    (no_loader : loader_module_name ≢ name) (no_top : top_module_name ≢ name) where
  abbrev Differs : PlainModule → Type 0
  Differs m = m.name ≢ name

  loaders_differ : {rows : ℕ} {mode : Mode} {loaders : List PlainModule} → AreLoaders rows mode loaders → All Differs loaders
  loaders_differ (one {loader} is_loader small) = All-cons Differs loader [] (λ same. no_loader (sym (ap (λ (m : PlainModule). m.name) is_loader.is) ∙ same)) (All-nil Differs)
  loaders_differ none = All-nil Differs

  no_module : (fabric : PlainFabric) {loaders : List PlainModule} → AreLoaders fabric.rows (text_mode fabric) loaders → module_named (fabric_text fabric loaders) name ≡ None
  no_module fabric {loaders} are =
      let mode = text_mode fabric in
      let kinds_text = map module_of_kind (used_kinds fabric) in
      let tiles_text = flat_map (tile_modules mode) (standing_types fabric) in
      let last = top_module fabric ∷ [] in
      none_named (fabric_text fabric loaders) name
      (All-append Differs kinds_text (tiles_text ++ (loaders ++ last))
      (All-map Differs module_of_kind (used_kinds fabric) (all_of (λ (kind : Kind). Differs (module_of_kind kind)) (used_kinds fabric) no_kind))
      (All-append Differs tiles_text (loaders ++ last)
      (all_flat_map Differs (tile_modules mode) (standing_types fabric)
      (all_of (λ (tile : PlainTile). All Differs (tile_modules mode tile)) (standing_types fabric) (λ tile.
      all_of_tile mode Differs tile (no_matrix tile) (no_config tile) (no_tile tile))))
      (All-append Differs loaders last (loaders_differ are) (All-cons Differs (top_module fabric) [] no_top (All-nil Differs)))))

no_port_module : (fabric : PlainFabric) {loaders : List PlainModule} → AreLoaders fabric.rows (text_mode fabric) loaders → module_named (fabric_text fabric loaders) serial_module_name ≡ None
no_port_module fabric are =
    no_module serial_module_name (λ kind. kind_apart kind serial_module_name (omega arith)) (λ tile. told_apart 0 (matrix_module_name tile) serial_module_name refl)
    (λ tile. told_apart 0 (config_module_name tile) serial_module_name refl) (λ tile. told_apart 0 (tile_module_name tile) serial_module_name refl)
    (told_apart 0 loader_module_name serial_module_name refl) (told_apart 0 top_module_name serial_module_name refl) fabric are

no_top_module : (fabric : PlainFabric) {loaders : List PlainModule} → AreLoaders fabric.rows (text_mode fabric) loaders → module_named (fabric_text fabric loaders) serial_top_name ≡ None
no_top_module fabric are =
    no_module serial_top_name (λ kind. kind_apart kind serial_top_name (omega arith)) (λ tile. told_apart 0 (matrix_module_name tile) serial_top_name refl)
    (λ tile. told_apart 0 (config_module_name tile) serial_top_name refl) (λ tile. told_apart 0 (tile_module_name tile) serial_top_name refl)
    (told_apart 0 loader_module_name serial_top_name refl) (told_apart 5 top_module_name serial_top_name refl) fabric are

-- ---- ports of the top

abbrev FreePort : Port → Type 0
FreePort port = IsFree port.name

pad_free : (x y bel : ℕ) (port : List ℕ) → IsFree (pad_port_name x y bel port)
pad_free x y bel port =
    let name = pad_port_name x y bel port in
    (told_apart 0 name serial_strobe_name refl, told_apart 0 name serial_data_name refl, told_apart 0 name serial_instance_name refl, told_apart 0 name fabric_instance_name refl)

pads_free : (x y : ℕ) (placed : ℕ × Bel) → All FreePort (pad_ports x y placed)
pads_free x y placed =
    let kind = placed.1.kind in
    let enters = λ (port : List ℕ). scalar true (pad_port_name x y placed.0 port) in
    let leaves = λ (port : List ℕ). scalar false (pad_port_name x y placed.0 port) in
    All-append FreePort (map enters (top_inputs kind)) (map leaves (top_outputs kind))
    (All-map FreePort enters (top_inputs kind) (all_of (λ (port : List ℕ). FreePort (enters port)) (top_inputs kind) (pad_free x y placed.0)))
    (All-map FreePort leaves (top_outputs kind) (all_of (λ (port : List ℕ). FreePort (leaves port)) (top_outputs kind) (pad_free x y placed.0)))

named_free : (name : List ℕ) → bytes_eq name serial_strobe_name ≡ false → bytes_eq name serial_data_name ≡ false → bytes_eq name serial_instance_name ≡ false →
    bytes_eq name fabric_instance_name ≡ false → IsFree name
named_free name a b c d = (names_differ name serial_strobe_name a, names_differ name serial_data_name b, names_differ name serial_instance_name c, names_differ name fabric_instance_name d)

ports_free : (fabric : PlainFabric) → All FreePort (top_ports fabric)
ports_free fabric =
    let pads = flat_map tile_pads (placed_tiles fabric) in
    All-cons FreePort (scalar true clock_name) (scalar true user_clock_name ∷ scalar true write_strobe_name ∷ data_port (text_mode fabric) ∷ pads) (named_free clock_name refl refl refl refl)
    (All-cons FreePort (scalar true user_clock_name) (scalar true write_strobe_name ∷ data_port (text_mode fabric) ∷ pads) (named_free user_clock_name refl refl refl refl)
    (All-cons FreePort (scalar true write_strobe_name) (data_port (text_mode fabric) ∷ pads) (named_free write_strobe_name refl refl refl refl)
    (All-cons FreePort (data_port (text_mode fabric)) pads (named_free write_data_name refl refl refl refl)
    (all_flat_map FreePort tile_pads (placed_tiles fabric)
    (all_of (λ (p : PlacedTile). All FreePort (tile_pads p)) (placed_tiles fabric) (λ p.
    all_flat_map FreePort (pad_ports p.x p.y) (enumerate_from 0 p.tile.bels)
    (all_of (λ (placed : ℕ × Bel). All FreePort (pad_ports p.x p.y placed)) (enumerate_from 0 p.tile.bels) (pads_free p.x p.y))))))))

-- ---- WriteStrobe leads to the loader alone, and there to no clock

-- a join of WriteStrobe is one of the loader, and to another port than its clock
abbrev LeadsToLoader : (module_name : List ℕ) → PlainJoin → Type 0
LeadsToLoader of join = join.to ≡ Some (variable write_strobe_name) → (of ≡ loader_module_name) × (join.port ≢ clock_name)

abbrev NoClock : PlainItem → Type 0
NoClock (clocked clock target e) = ⊥
NoClock (instance of i joins) = All (LeadsToLoader of) joins
NoClock _ = Unit {0}

-- a join of another name
other_join : (of port name : List ℕ) → name ≢ write_strobe_name → LeadsToLoader of (port_join port (variable name))
other_join of port name differ is = absurd (differ (let both : Some (variable name) ≡ Some (variable write_strobe_name) = is in cc))

loader_joins_lead : (rows : ℕ) → All (LeadsToLoader loader_module_name) (loader_joins rows)
loader_joins_lead rows =
    let P = LeadsToLoader loader_module_name in
    let of_rows = counted rows (λ y. same_join (row_port y)) in
    All-cons P (same_join clock_name) (same_join write_strobe_name ∷ same_join write_data_name ∷ same_join address_port ∷ same_join strobe_port ∷ of_rows)
    (other_join loader_module_name clock_name clock_name (told_apart 0 clock_name write_strobe_name refl))
    (All-cons P (same_join write_strobe_name) (same_join write_data_name ∷ same_join address_port ∷ same_join strobe_port ∷ of_rows) (λ is. (refl, told_apart 0 write_strobe_name clock_name refl))
    (All-cons P (same_join write_data_name) (same_join address_port ∷ same_join strobe_port ∷ of_rows)
    (other_join loader_module_name write_data_name write_data_name (told_apart 5 write_data_name write_strobe_name refl))
    (All-cons P (same_join address_port) (same_join strobe_port ∷ of_rows) (other_join loader_module_name address_port address_port (told_apart 0 address_port write_strobe_name refl))
    (All-cons P (same_join strobe_port) of_rows (other_join loader_module_name strobe_port strobe_port (told_apart 0 strobe_port write_strobe_name refl))
    (all_counted P rows (λ y. same_join (row_port y)) (λ y few. other_join loader_module_name (row_port y) (row_port y) (told_apart 0 (row_port y) write_strobe_name refl)))))))

module _ (fabric : PlainFabric) (placed : PlacedTile) where
  abbrev Leads : PlainJoin → Type 0
  Leads = LeadsToLoader (tile_module_name placed.tile)

  begin_lead : (port : List ℕ) (x y : ℕ) (row : WireRow) (bit : ℕ) → Leads (port_join port (variable (begin_wire_name x y row bit)))
  begin_lead port x y row bit = other_join (tile_module_name placed.tile) port (begin_wire_name x y row bit) (told_apart 0 (begin_wire_name x y row bit) write_strobe_name refl)

  end_lead : (port : List ℕ) (previous : Option PlacedRow) (bit : ℕ) → Leads (port_join port (end_value previous bit))
  end_lead port None bit = λ is. absurd (let both : Some (constant (false ∷ [])) ≡ Some (variable write_strobe_name) = is in let bad : ⊥ = cc in bad)
  end_lead port (Some previous) bit = begin_lead port previous.place.x previous.place.y previous.row bit

  row_leads : (numbered : ℕ × WireRow) → All Leads (row_joins fabric placed numbered)
  row_leads numbered =
      let row = numbered.1 in
      let begins = counted (side_border row row.source) (λ bit. port_join (begin_name row bit) (variable (begin_wire_name placed.x placed.y row bit))) in
      let ends = counted (side_border row row.dest) (λ bit. port_join (end_name row bit) (end_value (previous_row fabric (numbered_row placed numbered.0 row)) bit)) in
      all_if Leads (is_jump row.dir) [] (begins ++ ends) (All-nil Leads)
      (All-append Leads begins ends
      (all_counted Leads (side_border row row.source) (λ bit. port_join (begin_name row bit) (variable (begin_wire_name placed.x placed.y row bit)))
      (λ bit few. begin_lead (begin_name row bit) placed.x placed.y row bit))
      (all_counted Leads (side_border row row.dest) (λ bit. port_join (end_name row bit) (end_value (previous_row fabric (numbered_row placed numbered.0 row)) bit))
      (λ bit few. end_lead (end_name row bit) (previous_row fabric (numbered_row placed numbered.0 row)) bit)))

  pad_leads : (bel : ℕ × Bel) → All Leads (pad_joins placed.x placed.y bel)
  pad_leads bel =
      let to_pad = λ (port : List ℕ). port_join (pad_name bel.0 port) (variable (pad_port_name placed.x placed.y bel.0 port)) in
      let each : (port : List ℕ) → Leads (to_pad port) = λ port.
      other_join (tile_module_name placed.tile) (pad_name bel.0 port) (pad_port_name placed.x placed.y bel.0 port) (told_apart 0 (pad_port_name placed.x placed.y bel.0 port) write_strobe_name refl) in
      All-append Leads (map to_pad (top_inputs bel.1.kind)) (map to_pad (top_outputs bel.1.kind))
      (All-map Leads to_pad (top_inputs bel.1.kind) (all_of (λ (port : List ℕ). Leads (to_pad port)) (top_inputs bel.1.kind) each))
      (All-map Leads to_pad (top_outputs bel.1.kind) (all_of (λ (port : List ℕ). Leads (to_pad port)) (top_outputs bel.1.kind) each))

  -- the joins of frames
  frames_lead : All Leads (config_joins modes.Frames fabric placed)
  frames_lead =
      let of = tile_module_name placed.tile in
      All-cons Leads (port_join frame_data_name (variable (row_port placed.y))) (port_join frame_strobe_name (variable (column_strobe_name placed.x)) ∷ [])
      (other_join of frame_data_name (row_port placed.y) (told_apart 0 (row_port placed.y) write_strobe_name refl))
      (All-cons Leads (port_join frame_strobe_name (variable (column_strobe_name placed.x))) []
      (other_join of frame_strobe_name (column_strobe_name placed.x) (told_apart 0 (column_strobe_name placed.x) write_strobe_name refl)) (All-nil Leads))

  tile_joins_lead : text_mode fabric ≡ modes.Frames → All Leads (tile_joins fabric placed)
  tile_joins_lead frames =
      let rows = enumerate_from 0 placed.tile.rows in
      let bels = enumerate_from 0 placed.tile.bels in
      let rest = flat_map (row_joins fabric placed) rows ++ flat_map (pad_joins placed.x placed.y) bels in
      let of = tile_module_name placed.tile in
      let brought = config_joins (text_mode fabric) fabric placed in
      All-cons Leads (same_join user_clock_name) (brought ++ rest)
      (other_join of user_clock_name user_clock_name (told_apart 0 user_clock_name write_strobe_name refl))
      (All-append Leads brought rest (subst (λ (mode : Mode). All Leads (config_joins mode fabric placed)) (sym frames) frames_lead)
      (All-append Leads (flat_map (row_joins fabric placed) rows) (flat_map (pad_joins placed.x placed.y) bels)
      (all_flat_map Leads (row_joins fabric placed) rows (all_of (λ (numbered : ℕ × WireRow). All Leads (row_joins fabric placed numbered)) rows row_leads))
      (all_flat_map Leads (pad_joins placed.x placed.y) bels (all_of (λ (bel : ℕ × Bel). All Leads (pad_joins placed.x placed.y bel)) bels pad_leads))))

top_has_no_clock : (fabric : PlainFabric) → text_mode fabric ≡ modes.Frames → All NoClock (top_items fabric)
top_has_no_clock fabric frames =
    all_of_top fabric NoClock (λ name. tt) (λ name. tt) (λ name. tt) (λ x. tt) (λ _. loader_joins_lead fabric.rows) (λ placed there. tile_joins_lead fabric placed frames)

-- ---- the loader's only clock is CLK

abbrev ByClock : PlainItem → Type 0
ByClock = ClocksBy (λ name. name ≡ clock_name)

abbrev row_registers : (rows : ℕ) → List PlainItem
row_registers rows = counted rows (λ row. reg (Vector 32) (row_register_name row))

abbrev row_processes : (rows : ℕ) → NextValues → List PlainItem
row_processes rows next = counted rows (λ row. clocked clock_name (row_register_name row) (next.row row))

abbrev row_outputs : (rows : ℕ) → List PlainItem
row_outputs rows = counted rows (λ row. assign (row_port row) (variable (row_register_name row)))

loader_clocks : (rows : ℕ) (next : NextValues) → All ByClock (loader_of rows next).items
loader_clocks rows next =
    All-append ByClock (registers rows) (processes rows next ++ outputs rows)
    (All-cons ByClock (reg (Vector 2) state_name) (reg (Vector 5) count_name ∷ reg (Vector 32) address_register_name ∷ reg Scalar strobe_register_name ∷ (row_registers rows)) tt
    (All-cons ByClock (reg (Vector 5) count_name) (reg (Vector 32) address_register_name ∷ reg Scalar strobe_register_name ∷ (row_registers rows)) tt
    (All-cons ByClock (reg (Vector 32) address_register_name) (reg Scalar strobe_register_name ∷ (row_registers rows)) tt
    (All-cons ByClock (reg Scalar strobe_register_name) (row_registers rows) tt (all_counted ByClock rows (λ row. reg (Vector 32) (row_register_name row)) (λ row few. tt))))))
    (All-append ByClock (processes rows next) (outputs rows)
    (All-cons ByClock (clocked clock_name state_name next.state)
    (clocked clock_name count_name next.count ∷ clocked clock_name address_register_name next.address ∷ clocked clock_name strobe_register_name next.strobe ∷ (row_processes rows next)) refl
    (All-cons ByClock (clocked clock_name count_name next.count) (clocked clock_name address_register_name next.address ∷ clocked clock_name strobe_register_name next.strobe ∷ (row_processes rows next)) refl
    (All-cons ByClock (clocked clock_name address_register_name next.address) (clocked clock_name strobe_register_name next.strobe ∷ (row_processes rows next)) refl
    (All-cons ByClock (clocked clock_name strobe_register_name next.strobe) (row_processes rows next) refl
    (all_counted ByClock rows (λ row. clocked clock_name (row_register_name row) (next.row row)) (λ row few. refl))))))
    (All-cons ByClock (assign address_port (variable address_register_name)) (assign strobe_port (variable strobe_register_name) ∷ (row_outputs rows)) tt
    (All-cons ByClock (assign strobe_port (variable strobe_register_name)) (row_outputs rows) tt
    (all_counted ByClock rows (λ row. assign (row_port row) (variable (row_register_name row))) (λ row few. tt)))))

strobe_no_clock : (fabric : PlainFabric) (next : NextValues) (text : List PlainModule) → text_mode fabric ≡ modes.Frames → module_named text loader_module_name ≡ Some (loader_of fabric.rows next) →
    ServesAsClock text (top_module fabric) write_strobe_name → ⊥
strobe_no_clock fabric next text frames named (ticks target value listed) = All-contains NoClock (top_items fabric) (clocked write_strobe_name target value) (top_has_no_clock fabric frames) listed
strobe_no_clock fabric next text frames named (leads of i joins join below listed among to found later) =
    let led = All-contains (LeadsToLoader of) joins join (All-contains NoClock (top_items fabric) (instance of i joins) (top_has_no_clock fabric frames) listed) among to in
    let is : loader_of fabric.rows next ≡ below =
    (let both : Some (loader_of fabric.rows next) ≡ Some below = sym named ∙ (ap (module_named text) (sym led.0) ∙ found) in cc) in
    led.1 (serves (λ name. name ≡ clock_name) text (loader_of fabric.rows next) join.port (loader_clocks fabric.rows next) (subst (λ m. ServesAsClock text m join.port) (sym is) later))

-- ---- together

pub takes_port : (fabric : PlainFabric) (text : List PlainModule) → text_mode fabric ≡ modes.Frames → IsFabric fabric → IsFabricText fabric text → CanHaveSerialPort text
takes_port fabric text frames is is_text =
    let found = has_loader fabric text is is_text frames in
    record {
      sound = is_text.sound;
      no_port = ap (λ modules. module_named modules serial_module_name) is_text.is ∙ no_port_module fabric is_text.are;
      no_top = ap (λ modules. module_named modules serial_top_name) is_text.is ∙ no_top_module fabric is_text.are;
      top = top_module fabric;
      top_is = found.1.tiles.top_is;
      called = refl;
      clock = (refl, refl);
      user_clock = (refl, refl);
      strobe = (refl, refl);
      no_clock = strobe_no_clock fabric found.0 text frames found.1.named;
      word = (refl, ap (λ (mode : Mode). Some (data_shape mode)) frames);
      free = ports_free fabric;
    }
