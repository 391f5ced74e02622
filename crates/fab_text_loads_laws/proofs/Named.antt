-- The named points of the text of a fabric in frames are loading points.
use Rattle.std.proofs.Common.{◌≡◌, ℕ, ◌<◌, true, false, ◌||◌, List, [], ◌∷◌, ◌++◌, refl, sym, ◌∙◌, subst, inl, inr, arith, Some, All, Contains, slice_index_or, Bool}
use Rattle.std.specs.Str.{bytes_eq}
use Rattle.std.proofs.lemmas.Bool.{or_cases, false≢true}
use Rattle.std.proofs.lemmas.List.Elements.{All-append, Contains-append_left, Contains-append_right}
use Rattle.fab_syntax.specs.declared.tree.Shape.TheVariants.{Scalar, Vector}
use Rattle.fab_syntax.specs.declared.tree.Port.{Port}
use Rattle.fab_syntax.specs.Plain.{PlainModule, variable, part, reg, wire}
use Rattle.fab_syntax.specs.Declarations.{is_input}
use Rattle.fab_meaning.specs.Points.{Path, Point, point, hold, module_at}
use Rattle.fab_meaning.specs.Reads.{is_declared, expression_reads}
use Rattle.fab_meaning.specs.Loading.{Within, by_reads, write_strobe_name, write_data_name}
use Rattle.fab_meaning.proofs.Modules.{each_all}
use Rattle.fab_meaning.specs.Runs.{clock_name}
use Rattle.fab_drives_laws.specs.fab_model_mode_Mode_TheVariants as modes
use Rattle.fab_drives_laws.specs.fab_model_Tiles.{PlainTile, counted, tile_bits}
use Rattle.fab_drives_laws.specs.fab_model_Grid.{PlainFabric, tile_at}
use Rattle.fab_drives_laws.specs.fab_gen_tile_Names.{frame_data_name, frame_strobe_name, latch_name, port_join}
use Rattle.fab_drives_laws.specs.fab_gen_tile_ConfigModule.{bit_latch, config_items, config_module, config_ports}
use Rattle.fab_drives_laws.specs.fab_gen_loader_Loader.{NextValues, loader_of, loader_module_name, address_port, strobe_port, row_port}
use Rattle.fab_drives_laws.specs.fab_fabric_text_defs_Names.{loader_instance_name, column_strobe_name}
use Rattle.fab_drives_laws.specs.fab_fabric_text_defs_Top.{loader_wires, loader_joins, loader_instance, column_strobes, top_items, top_module}
use Rattle.fab_drives_laws.specs.Points.{place_path}
use Rattle.fab_drives_laws.specs.fab_fabric_text_defs_Mode.{text_mode}
use Rattle.fab_drives_laws.proofs.fab_tile_drives_laws_Driven.{width_of, declared_at}
use Rattle.fab_drives_laws.proofs.fab_tile_drives_laws_Endings.{all_counted}
use Rattle.fab_drives_laws.proofs.fab_tile_drives_laws_Members.{contains_later, contains_counted}
use Rattle.fab_drives_laws.proofs.Places.{in_grid}
use Rattle.fab_text_loads_laws.specs.Points.{loader_path, config_path, top_names, IsLoadingPoint}
use Rattle.fab_text_loads_laws.specs.Loads.{NamedAreLoading}
use Rattle.fab_text_loads_laws.proofs.Drivers.{assigned_by, latched_by, joined_from}
use Rattle.fab_text_loads_laws.proofs.Declared.{bit_below}
use Rattle.fab_text_loads_laws.proofs.Tops.{address_width, strobe_width, row_width}
use Rattle.fab_text_loads_laws.proofs.Loader.{HasLoader, loader_there, row_port_width, row_is_output}
use Rattle.fab_text_loads_laws.proofs.Strobes.{strobe_expression}
use Rattle.fab_text_loads_laws.proofs.Within.{AreWithin, read_within, expression_within, only_name, copy_within, flops, clock_within, strobe_within, data_within, loader_within, within_is_loading}
use Rattle.fab_text_loads_laws.proofs.InMode.{config_in, carrying_there}
use Rattle.fab_text_loads_laws.proofs.Bits.{BringsBits, tile_input_within, config_input_within, all_named_within}

-- ---- items of modules

pub strobes_there : (fabric : PlainFabric) → text_mode fabric ≡ modes.Frames → (x : ℕ) → x < fabric.columns → Contains (top_items fabric) (column_strobes x)
strobes_there fabric frames x within =
    let wires = counted fabric.columns (λ x. wire (Vector 20) (column_strobe_name x)) in
    let strobes = counted fabric.columns column_strobes in
    carrying_there fabric modes.Frames frames (column_strobes x)
    (Contains-append_right (loader_wires fabric.rows) (loader_instance fabric.rows ∷ (wires ++ strobes)) (column_strobes x)
    (contains_later (loader_instance fabric.rows) (wires ++ strobes) (column_strobes x)
    (Contains-append_right wires strobes (column_strobes x) (contains_counted fabric.columns column_strobes x within))))

pub latch_there : (tile : PlainTile) (bit : ℕ) → bit < tile_bits tile → Contains (config_items modes.Frames tile) (bit_latch tile bit)
latch_there tile bit few =
    Contains-append_right (counted (tile_bits tile) (λ bit. reg Scalar (latch_name bit))) _ (bit_latch tile bit)
    (Contains-append_left (counted (tile_bits tile) (bit_latch tile)) _ (bit_latch tile bit) (contains_counted (tile_bits tile) (bit_latch tile) bit few))

pub row_joined : (rows row : ℕ) → row < rows → Contains (loader_joins rows) (port_join (row_port row) (variable (row_port row)))
row_joined rows row within =
    Contains-append_right (port_join clock_name (variable clock_name) ∷ port_join write_strobe_name (variable write_strobe_name) ∷ port_join write_data_name (variable write_data_name)
    ∷ port_join address_port (variable address_port) ∷ port_join strobe_port (variable strobe_port) ∷ [])
    (counted rows (λ y. port_join (row_port y) (variable (row_port y)))) (port_join (row_port row) (variable (row_port row)))
    (contains_counted rows (λ y. port_join (row_port y) (variable (row_port y))) row within)

module _ (fabric : PlainFabric) (next : NextValues) (text : List PlainModule) (has : HasLoader fabric next text) where
  abbrev IsIn : Point → Type 0
  IsIn = Within text (flops fabric next text has)

  abbrev Are : Path → List ℕ → Type 0
  Are = AreWithin text (flops fabric next text has)

  -- ---- the top

  abbrev loader : PlainModule
  loader = loader_of fabric.rows next

  -- what the loader drives
  from_loader : (name : List ℕ) (width : ℕ) → Contains (loader_joins fabric.rows) (port_join name (variable name)) → is_input loader.ports name ≡ false →
      width_of (top_module fabric) name ≡ width → width_of loader name ≡ width → Are [] name
  from_loader name width among output here there bit declared =
      let below : bit < width_of (top_module fabric) name = bit_below text [] (top_module fabric) name bit has.tiles.top_is declared in
      let inner : is_declared text (point loader_path name bit) ≡ true = declared_at text loader_path loader name bit has.stands (subst (λ w. bit < w) (here ∙ sym there) below) in
      copy_within text (flops fabric next text has) (point [] name bit) (point loader_path name bit) declared
      (joined_from text [] (top_module fabric) has.tiles.top_is loader loader_module_name loader_instance_name (loader_joins fabric.rows) has.named
      (loader_there fabric has.frames) name name bit among output)
      (loader_within fabric next text has name bit inner)

  address_within : Are [] address_port
  address_within = from_loader address_port 32 (3, omega arith, refl) refl (address_width fabric has.frames) refl

  loader_strobe_within : Are [] strobe_port
  loader_strobe_within = from_loader strobe_port 1 (4, omega arith, refl) refl (strobe_width fabric has.frames) refl

  row_within : (y : ℕ) → y < fabric.rows → Are [] (row_port y)
  row_within y few =
      from_loader (row_port y) 32 (row_joined fabric.rows y few) (row_is_output fabric.rows next y) (row_width fabric has.frames y few)
      (row_port_width fabric.rows next y few)

  column_within : (x : ℕ) → x < fabric.columns → Are [] (column_strobe_name x)
  column_within x few bit declared =
      let F = flops fabric next text has in
      expression_within text F (point [] (column_strobe_name x) bit) [] (strobe_expression x) bit declared
      (assigned_by text [] (top_module fabric) has.tiles.top_is (column_strobe_name x) (strobe_expression x) bit (strobes_there fabric has.frames x few))
      (λ name mentioned. elim (or_cases (bytes_eq strobe_port name || (bytes_eq address_port name || false)) (bytes_eq address_port name || false) mentioned) [
        | inl test ↦ elim (or_cases (bytes_eq strobe_port name) (bytes_eq address_port name || false) test) [
          | inl strobe ↦ only_name text F [] strobe_port loader_strobe_within name strobe
          | inr other ↦ elim (or_cases (bytes_eq address_port name) false other) [
            | inl address ↦ only_name text F [] address_port address_within name address
            | inr none ↦ absurd (false≢true none)
          ]
        ]
        | inr other ↦ elim (or_cases (bytes_eq address_port name) false other) [
          | inl address ↦ only_name text F [] address_port address_within name address
          | inr none ↦ absurd (false≢true none)
        ]
      ])

  top_within : All (Are []) (top_names modes.Frames fabric)
  top_within =
      let P = Are [] in
      let F = flops fabric next text has in
      let fixed : List (List ℕ) = clock_name ∷ write_strobe_name ∷ write_data_name ∷ address_port ∷ strobe_port ∷ [] in
      All-append P fixed (counted fabric.rows row_port ++ counted fabric.columns column_strobe_name)
      (each_all P fixed (
        clock_within text F fabric has.tiles,
        (strobe_within text F fabric has.tiles, (data_within text F fabric has.tiles, (address_within, (loader_strobe_within, tt)))),
      ))
      (All-append P (counted fabric.rows row_port) (counted fabric.columns column_strobe_name)
      (all_counted P fabric.rows row_port row_within)
      (all_counted P fabric.columns column_strobe_name column_within))

  -- ---- a tile

  module _ (x y : ℕ) (tile : PlainTile) (there : tile_at fabric x y ≡ Some tile) where
    abbrev F : Point → Bool
    F = flops fabric next text has

    data_here : Are (place_path x y) frame_data_name
    data_here =
        tile_input_within fabric modes.Frames has.frames text has.tiles F x y tile there frame_data_name (row_port y) (0, omega arith, refl) refl
        (row_within y (in_grid fabric x y tile there).1)

    strobe_here : Are (place_path x y) frame_strobe_name
    strobe_here =
        tile_input_within fabric modes.Frames has.frames text has.tiles F x y tile there frame_strobe_name (column_strobe_name x) (1, omega arith, refl) refl
        (column_within x (in_grid fabric x y tile there).0)

    -- ---- its configuration

    module _ (some : 0 < tile_bits tile) where
      pub config_stands : module_at text (config_path x y) ≡ Some (config_module modes.Frames tile)
      config_stands = config_in fabric modes.Frames has.frames text has.tiles x y tile there some

      config_data : Are (config_path x y) frame_data_name
      config_data =
          config_input_within fabric modes.Frames has.frames text has.tiles F x y tile there some frame_data_name (0, omega arith, refl) refl data_here

      config_strobe : Are (config_path x y) frame_strobe_name
      config_strobe =
          config_input_within fabric modes.Frames has.frames text has.tiles F x y tile there some frame_strobe_name (1, omega arith, refl) refl strobe_here

      latch_within : (number : ℕ) → number < tile_bits tile → Are (config_path x y) (latch_name number)
      latch_within number few bit declared =
          let path = config_path x y in
          let place = slice_index_or tile.table number (0, 0) in
          let gate = part frame_strobe_name place.0 place.0 in
          let data_value = part frame_data_name place.1 place.1 in
          by_reads (hold path gate data_value bit) declared
          (latched_by text path (config_module modes.Frames tile) config_stands (latch_name number) gate data_value bit (latch_there tile number few))
          tt
          (λ q read. elim (or_cases (expression_reads text path gate q) (expression_reads text path data_value q) read) [
            | inl gate_reads ↦ read_within text F path gate (only_name text F path frame_strobe_name config_strobe) q gate_reads
            | inr data_reads ↦ read_within text F path data_value (only_name text F path frame_data_name config_data) q data_reads
          ])

    brings_bits : BringsBits modes.Frames text F x y tile
    brings_bits = record {
      outer = each_all (λ (port : Port). Are (place_path x y) port.name) (config_ports modes.Frames) (data_here, (strobe_here, tt));
      inner = λ some. each_all (λ (port : Port). Are (config_path x y) port.name) (config_ports modes.Frames) (config_data some, (config_strobe some, tt));
      kept = λ number few. latch_within (omega (arith, few)) number few;
    }

  -- ---- all named points

  pub named_within : (p : Point) → IsLoadingPoint fabric p → is_declared text p ≡ true → IsIn p
  named_within =
      all_named_within fabric modes.Frames has.frames text has.tiles (flops fabric next text has) top_within (loader_within fabric next text has) brings_bits

  pub named_are_loading : NamedAreLoading fabric text
  named_are_loading p is declared = within_is_loading fabric next text has p (named_within p is declared)
