-- What a settled assignment shows at the loading points of a text in frames: the machine of the loader, and the latches by it.
use Rattle.std.proofs.Common.{◌≡◌, ℕ, ◌+◌, ◌<◌, true, false, ◌&&◌, List, [], ◌∷◌, refl, sym, ap, ◌∙◌, subst, inl, arith, Some, Contains, cond, slice_index_or, slice_range, nat_eq}
use Rattle.std.proofs.lemmas.List.Elements.{All-contains, Contains-append_left, Contains-append_right}
use Rattle.fab_bits.specs.Bits.{number}
use Rattle.fab_bits.proofs.Numbers.{get_first_bits, first_bits_same}
use Rattle.fab_syntax.specs.Plain.{PlainModule, variable, part, assign}
use Rattle.fab_syntax.specs.Declarations.{is_input, is_input_of}
use Rattle.fab_meaning.specs.Value.{value, bit_at}
use Rattle.fab_meaning.specs.Points.{Path, Point, point, outside, hold, flop, module_at}
use Rattle.fab_meaning.specs.Settled.{Assignment, names_at, IsSettledOn}
use Rattle.fab_meaning.specs.Runs.{clock_name}
use Rattle.fab_meaning.specs.Loading.{IsLoading, write_strobe_name, write_data_name}
use Rattle.fab_meaning.proofs.Declared.{bits_of_name}
use Rattle.fab_drives_laws.specs.fab_model_mode_Mode_TheVariants as modes
use Rattle.fab_drives_laws.specs.fab_model_Tiles.{PlainTile, counted, tile_bits}
use Rattle.fab_drives_laws.specs.fab_model_Grid.{PlainFabric, tile_at}
use Rattle.fab_drives_laws.specs.fab_fabric_Names.{place_name}
use Rattle.fab_drives_laws.specs.fab_fabric_Fabric.{IsFabric}
use Rattle.fab_drives_laws.specs.fab_gen_tile_Names.{tile_module_name, config_module_name, config_instance_name, frame_data_name, frame_strobe_name, latch_name, port_join}
use Rattle.fab_drives_laws.specs.fab_gen_tile_ConfigModule.{config_module}
use Rattle.fab_drives_laws.specs.fab_gen_tile_TileModule.{config_joins, tile_module}
use Rattle.fab_drives_laws.specs.fab_gen_loader_Machine.{Machine}
use Rattle.fab_drives_laws.specs.fab_gen_loader_Loader.{NextValues, outputs, loader_of, machine_at, bits_at, strobe_register_name, address_register_name as address_register, row_register_name, loader_module_name, address_port, strobe_port, row_port}
use Rattle.fab_drives_laws.specs.fab_fabric_text_defs_Names.{loader_instance_name, column_strobe_name}
use Rattle.fab_drives_laws.specs.fab_fabric_text_defs_Top.{loader_joins, tile_joins, top_module, config_joins as carrying_joins}
use Rattle.fab_drives_laws.specs.fab_tile_drives_laws_Stands.{IsSettledOnDeclared, TileStands}
use Rattle.fab_drives_laws.specs.Points.{place_path}
use Rattle.fab_drives_laws.specs.fab_model_mode_Mode.{Mode}
use Rattle.fab_loading_laws.specs.Latches.{LatchPlace, is_open, latch_shows}
use Rattle.fab_drives_laws.proofs.fab_gen_loader_Counted.{get_counted}
use Rattle.fab_drives_laws.proofs.fab_gen_loader_Widths.{address_width as address_register_width, row_width as row_register_width}
use Rattle.fab_drives_laws.proofs.fab_tile_drives_laws_Driven.{width_of, declared_at, variable_bit, part_bit, assigned, joined_in, joined_out}
use Rattle.fab_drives_laws.proofs.fab_tile_drives_laws_Latches.{latch_width}
use Rattle.fab_drives_laws.proofs.fab_tile_drives_laws_Members.{contains_counted}
use Rattle.fab_drives_laws.proofs.fab_tile_drives_laws_TileItems.{config_there}
use Rattle.fab_drives_laws.proofs.Instances.{tile_instance_there}
use Rattle.fab_drives_laws.proofs.Places.{in_grid, placed_tile}
use Rattle.fab_text_loads_laws.specs.Points.{loader_path, config_path, top_names, IsLoadingPoint, in_top, in_loader, in_tile, in_configuration, tile_names}
use Rattle.fab_text_loads_laws.proofs.Drivers.{latched_by}
use Rattle.fab_text_loads_laws.proofs.Tops.{address_width, strobe_width, row_width, column_width}
use Rattle.fab_text_loads_laws.proofs.Loader.{HasLoader, loader_there, row_port_width, row_is_output, strobe_register_width, output_there, row_output_there, register_names, row_register, IsFlop, registers_are_flops}
use Rattle.fab_text_loads_laws.proofs.Named.{strobes_there, latch_there, row_joined, config_stands, named_are_loading}
use Rattle.fab_text_loads_laws.proofs.Strobes.{strobe_expression, strobe_value}
use Rattle.fab_text_loads_laws.proofs.InMode.{carrying_joined, stands_in, module_in}

-- the place of a configuration latch
abbrev pub latch_place : (x y : ℕ) → PlainTile → (number : ℕ) → LatchPlace
latch_place x y tile number =
    record { x = x; y = y; frame = (slice_index_or tile.table number (0, 0)).0; bit = (slice_index_or tile.table number (0, 0)).1 }

abbrev pub latch_point : (x y number : ℕ) → Point
latch_point x y number = point (config_path x y) (latch_name number) 0

-- one bit of a name
one_bit : (text : List PlainModule) (now : Assignment) (path : Path) (m : PlainModule) (stands : module_at text path ≡ Some m) (name : List ℕ) (low : ℕ) → low < width_of m name →
    bit_at (value (names_at text now path) (part name low low)) 0 ≡ now (point path name low)
one_bit text now path m stands name low few =
    let same : low + 0 ≡ low = omega arith in
    subst (λ n. bit_at (value (names_at text now path) (part name n low)) 0 ≡ now (point path name n)) same
    (part_bit text now path m stands name low 0 0 (omega (arith, few)) (omega arith))

module _ (fabric : PlainFabric) (next : NextValues) (text : List PlainModule) (has : HasLoader fabric next text) (is : IsFabric fabric)
    (inputs held now : Assignment) (settled : IsSettledOn (IsLoading text) text inputs held now) where
  abbrev loader : PlainModule
  loader = loader_of fabric.rows next

  abbrev top : PlainModule
  top = top_module fabric

  -- settled on the named points
  on_named : IsSettledOnDeclared (IsLoadingPoint fabric) text inputs held now
  on_named p d own drives = settled p d (named_are_loading fabric next text has p own.0 own.1) drives

  -- a name of the top
  in_frames : (name : List ℕ) (bit : ℕ) → Contains (top_names modes.Frames fabric) name → IsLoadingPoint fabric (point [] name bit)
  in_frames name bit listed = in_top refl (subst (λ (m : Mode). Contains (top_names m fabric) name) (sym has.frames) listed)

  -- ---- the loader

  pub register_shows : (name : List ℕ) (bit : ℕ) → Contains (register_names fabric.rows) name → bit < width_of loader name →
      now (point loader_path name bit) ≡ held (point loader_path name bit)
  register_shows name bit listed few =
      let found : IsFlop text name = All-contains (IsFlop text) (register_names fabric.rows) name (registers_are_flops fabric next text has) listed in
      on_named (point loader_path name bit) (flop loader_path clock_name found.0 bit) (in_loader refl, declared_at text loader_path loader name bit has.stands few) (found.1 bit)

  -- an input of the top that carries words comes to the loader
  pub input_shows : (name : List ℕ) (bit : ℕ) → Contains (top_names modes.Frames fabric) name →
      Contains (loader_joins fabric.rows) (port_join name (variable name)) →
      is_input loader.ports name ≡ true → is_input top.ports name ≡ true → bit < width_of loader name → bit < width_of top name →
      now (point loader_path name bit) ≡ inputs (point [] name bit)
  input_shows name bit listed among inner outer few few_outside =
      let input : is_input_of (module_at text []) name ≡ true = ap (λ m. is_input_of m name) has.tiles.top_is ∙ outer in
      joined_in (IsLoadingPoint fabric) text inputs held now on_named [] top loader loader_module_name loader_instance_name (loader_joins fabric.rows) has.tiles.top_is has.named
      (loader_there fabric has.frames) name (variable name) bit among has.stands inner few (in_loader refl)
      ∙ variable_bit text now [] top has.tiles.top_is name bit few_outside
      ∙ on_named (point [] name bit) outside (in_frames name bit listed, declared_at text [] top name bit has.tiles.top_is few_outside)
      (inl (record { top = refl; input = input; is = refl }))

  -- what the loader drives in the top
  driven_shows : (name register : List ℕ) (width bit : ℕ) → Contains (top_names modes.Frames fabric) name →
      Contains (loader_joins fabric.rows) (port_join name (variable name)) →
      is_input loader.ports name ≡ false → Contains (outputs fabric.rows) (assign name (variable register)) → Contains (register_names fabric.rows) register →
      width_of top name ≡ width → width_of loader name ≡ width → width_of loader register ≡ width → bit < width →
      now (point [] name bit) ≡ held (point loader_path register bit)
  driven_shows name register width bit listed among output assigns listed_register here there inner few =
      joined_out (IsLoadingPoint fabric) text inputs held now on_named [] top loader loader_module_name loader_instance_name (loader_joins fabric.rows) has.tiles.top_is has.named
      (loader_there fabric has.frames) name name bit among output (omega (arith, here, few)) (in_frames name bit listed)
      ∙ assigned (IsLoadingPoint fabric) text inputs held now on_named loader_path loader name (variable register) bit has.stands
      (output_there fabric.rows next (assign name (variable register)) assigns) (omega (arith, there, few)) (in_loader refl)
      ∙ variable_bit text now loader_path loader has.stands register bit (omega (arith, inner, few))
      ∙ register_shows register bit listed_register (omega (arith, inner, few))

  address_shows : (bit : ℕ) → bit < 32 → now (point [] address_port bit) ≡ held (point loader_path address_register bit)
  address_shows bit few =
      driven_shows address_port address_register 32 bit (3, omega arith, refl) (3, omega arith, refl) refl (0, omega arith, refl) (2, omega arith, refl)
      (address_width fabric has.frames) refl (address_register_width fabric.rows next) few

  strobe_shows : now (point [] strobe_port 0) ≡ held (point loader_path strobe_register_name 0)
  strobe_shows =
      driven_shows strobe_port strobe_register_name 1 0 (4, omega arith, refl) (4, omega arith, refl) refl (1, omega arith, refl) (3, omega arith, refl)
      (strobe_width fabric has.frames) refl (strobe_register_width fabric.rows next) (omega arith)

  row_listed : (y : ℕ) → y < fabric.rows → Contains (top_names modes.Frames fabric) (row_port y)
  row_listed y few =
      Contains-append_right (clock_name ∷ write_strobe_name ∷ write_data_name ∷ address_port ∷ strobe_port ∷ []) _ (row_port y)
      (Contains-append_left (counted fabric.rows row_port) (counted fabric.columns column_strobe_name) (row_port y) (contains_counted fabric.rows row_port y few))

  column_listed : (x : ℕ) → x < fabric.columns → Contains (top_names modes.Frames fabric) (column_strobe_name x)
  column_listed x few =
      Contains-append_right (clock_name ∷ write_strobe_name ∷ write_data_name ∷ address_port ∷ strobe_port ∷ []) _ (column_strobe_name x)
      (Contains-append_right (counted fabric.rows row_port) (counted fabric.columns column_strobe_name) (column_strobe_name x)
      (contains_counted fabric.columns column_strobe_name x few))

  row_shows : (y bit : ℕ) → y < fabric.rows → bit < 32 → now (point [] (row_port y) bit) ≡ held (point loader_path (row_register_name y) bit)
  row_shows y bit within few =
      driven_shows (row_port y) (row_register_name y) 32 bit (row_listed y within) (row_joined fabric.rows y within) (row_is_output fabric.rows next y)
      (row_output_there fabric.rows y within) (row_register fabric.rows y within)
      (row_width fabric has.frames y within) (row_port_width fabric.rows next y within) (row_register_width fabric.rows next y within) few

  -- ---- strobes of columns

  abbrev machine : Machine
  machine = machine_at held loader_path fabric.rows

  column_shows : (x frame : ℕ) → x < fabric.columns → frame < 20 →
      now (point [] (column_strobe_name x) frame)
      ≡ (machine.strobe && (nat_eq (number (slice_range machine.address 27 32)) x && bit_at machine.address frame))
  column_shows x frame within few =
      let few_columns = is.few_columns in
      let strobe : names_at text now [] strobe_port ≡ held (point loader_path strobe_register_name 0) ∷ [] =
      bits_of_name text now [] top strobe_port 1 has.tiles.top_is (strobe_width fabric has.frames) ∙ ap (λ bit. bit ∷ []) strobe_shows in
      let address : names_at text now [] address_port ≡ bits_at held loader_path address_register 32 =
      bits_of_name text now [] top address_port 32 has.tiles.top_is (address_width fabric has.frames)
      ∙ first_bits_same 32 (λ bit. now (point [] address_port bit)) (λ bit. held (point loader_path address_register bit)) address_shows in
      assigned (IsLoadingPoint fabric) text inputs held now on_named [] top (column_strobe_name x) (strobe_expression x) frame has.tiles.top_is
      (strobes_there fabric has.frames x within)
      (omega (arith, few, column_width fabric has.frames x within)) (in_frames (column_strobe_name x) frame (column_listed x within))
      ∙ strobe_value (λ bit. held (point loader_path address_register bit)) (names_at text now []) (held (point loader_path strobe_register_name 0)) x frame strobe address
      (omega (arith, within, few_columns)) few

  -- ---- latches

  module _ (x y : ℕ) (tile : PlainTile) (there : tile_at fabric x y ≡ Some tile) where
    abbrev stands : TileStands modes.Frames text (place_path x y) tile
    stands = stands_in fabric modes.Frames has.frames text has.tiles x y tile there

    -- what comes to the tile from the top
    tile_input_shows : (port name : List ℕ) (bit : ℕ) → Contains (carrying_joins modes.Frames fabric (placed_tile x y tile)) (port_join port (variable name)) →
        is_input (tile_module modes.Frames tile).ports port ≡ true → bit < width_of (tile_module modes.Frames tile) port → bit < width_of top name →
        Contains (tile_names modes.Frames) port → now (point (place_path x y) port bit) ≡ now (point [] name bit)
    tile_input_shows port name bit among input few few_outside listed =
        let named : IsLoadingPoint fabric (point (place_path x y) port bit) =
        in_tile x y tile there refl (subst (λ (m : Mode). Contains (tile_names m) port) (sym has.frames) listed) in
        joined_in (IsLoadingPoint fabric) text inputs held now on_named [] top (tile_module modes.Frames tile) (tile_module_name tile) (place_name x y)
        (tile_joins fabric (placed_tile x y tile))
        has.tiles.top_is (module_in fabric modes.Frames has.frames text has.tiles x y tile there) (tile_instance_there fabric x y tile there) port
        (variable name) bit
        (carrying_joined fabric modes.Frames has.frames (placed_tile x y tile) (port_join port (variable name)) among) stands.tile_is input few named
        ∙ variable_bit text now [] top has.tiles.top_is name bit few_outside

    module _ (some : 0 < tile_bits tile) where
      abbrev config_here : module_at text (config_path x y) ≡ Some (config_module modes.Frames tile)
      config_here = config_stands fabric next text has x y tile there some

      -- and on to its configuration
      config_input_shows : (port : List ℕ) (bit : ℕ) → Contains (config_joins modes.Frames) (port_join port (variable port)) →
          is_input (config_module modes.Frames tile).ports port ≡ true →
          bit < width_of (config_module modes.Frames tile) port → bit < width_of (tile_module modes.Frames tile) port →
          now (point (config_path x y) port bit) ≡ now (point (place_path x y) port bit)
      config_input_shows port bit among input few few_outside =
          joined_in (IsLoadingPoint fabric) text inputs held now on_named (place_path x y) (tile_module modes.Frames tile) (config_module modes.Frames tile)
          (config_module_name tile)
          config_instance_name (config_joins modes.Frames) stands.tile_is (stands.config_is some) (config_there modes.Frames tile some) port
          (variable port) bit among config_here input few
          (in_configuration x y tile there refl)
          ∙ variable_bit text now (place_path x y) (tile_module modes.Frames tile) stands.tile_is port bit few_outside

      strobe_comes : (frame : ℕ) → frame < 20 → now (point (config_path x y) frame_strobe_name frame) ≡ now (point [] (column_strobe_name x) frame)
      strobe_comes frame few =
          config_input_shows frame_strobe_name frame (1, omega arith, refl) refl few few
          ∙ tile_input_shows frame_strobe_name (column_strobe_name x) frame (1, omega arith, refl) refl few
          (omega (arith, few, column_width fabric has.frames x (in_grid fabric x y tile there).0)) (1, omega arith, refl)

      data_comes : (bit : ℕ) → bit < 32 → now (point (config_path x y) frame_data_name bit) ≡ now (point [] (row_port y) bit)
      data_comes bit few =
          config_input_shows frame_data_name bit (0, omega arith, refl) refl few few
          ∙ tile_input_shows frame_data_name (row_port y) bit (0, omega arith, refl) refl few
          (omega (arith, few, row_width fabric has.frames y (in_grid fabric x y tile there).1)) (0, omega arith, refl)

      module _ (number_of_bit : ℕ) (few : number_of_bit < tile_bits tile) (few_frame : (latch_place x y tile number_of_bit).frame < 20)
          (few_bit : (latch_place x y tile number_of_bit).bit < 32) where
        abbrev place : LatchPlace
        place = latch_place x y tile number_of_bit

        gate_shows : bit_at (value (names_at text now (config_path x y)) (part frame_strobe_name place.frame place.frame)) 0 ≡ is_open machine place
        gate_shows =
            one_bit text now (config_path x y) (config_module modes.Frames tile) config_here frame_strobe_name place.frame few_frame
            ∙ strobe_comes place.frame few_frame
            ∙ column_shows x place.frame (in_grid fabric x y tile there).0 few_frame

        data_shows : bit_at (value (names_at text now (config_path x y)) (part frame_data_name place.bit place.bit)) 0 ≡ bit_at (slice_index_or machine.rows y []) place.bit
        data_shows =
            let within = (in_grid fabric x y tile there).1 in
            one_bit text now (config_path x y) (config_module modes.Frames tile) config_here frame_data_name place.bit few_bit
            ∙ data_comes place.bit few_bit
            ∙ row_shows y place.bit within few_bit
            ∙ sym (get_first_bits 32 (λ bit. held (point loader_path (row_register_name y) bit)) place.bit false few_bit)
            ∙ ap (λ word. bit_at word place.bit) (sym (get_counted fabric.rows (λ row. bits_at held loader_path (row_register_name row) 32) y [] within))

        pub latch_is_shown : now (latch_point x y number_of_bit) ≡ latch_shows machine place (held (latch_point x y number_of_bit))
        latch_is_shown =
            let gate = part frame_strobe_name place.frame place.frame in
            let data_value = part frame_data_name place.bit place.bit in
            on_named (latch_point x y number_of_bit) (hold (config_path x y) gate data_value 0) (
              in_configuration x y tile there refl,
              declared_at text (config_path x y) (config_module modes.Frames tile) (latch_name number_of_bit) 0 config_here
                  (omega (arith, latch_width modes.Frames tile number_of_bit few)),
            )
            (latched_by text (config_path x y) (config_module modes.Frames tile) config_here (latch_name number_of_bit) gate data_value 0
            (latch_there tile number_of_bit few))
            ∙ (λ j. cond (gate_shows j) (data_shows j) (held (latch_point x y number_of_bit)))
