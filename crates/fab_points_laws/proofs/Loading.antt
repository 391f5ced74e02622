-- The configuration bits at the places where they are used: they are loading points, and have the bits of the configuration.
use Rattle.std.proofs.Common.{◌≡◌, ℕ, zero, suc, ◌+◌, ◌<◌, ◌≤◌, Bool, true, List, [], ◌∷◌, ◌++◌, codes, length, map, refl, sym, ap, ◌∙◌, subst, arith, nat_eq, slice_get, Some, Contains}
use Rattle.std.proofs.lemmas.List.Elements.{All-contains, Contains-append_left, Contains-append_right}
use Rattle.fab_kinds.specs.declared.kind.Kind.TheVariants as kinds
use Rattle.fab_kinds.specs.Pins.{bit_count}
use Rattle.fab_systems_laws.specs.Ternary.{known}
use Rattle.fab_select.specs.Selection.{select_bits}
use Rattle.fab_syntax.specs.Plain.{PlainJoin, PlainModule, part, instance}
use Rattle.fab_syntax.specs.Declarations.{module_named, is_input}
use Rattle.fab_meaning.specs.Points.{Path, Point, point, bit_of, copy, module_at, Drives}
use Rattle.fab_meaning.specs.Settled.{Assignment, IsSettledOn}
use Rattle.fab_meaning.specs.Reads.{is_declared}
use Rattle.fab_meaning.specs.Loading.{IsLoading}
use Rattle.fab_meaning.specs.Ports.{config_name}
use Rattle.fab_model.specs.declared.mode.Mode.{Mode}
use Rattle.fab_model.specs.declared.tiles.Bel.{Bel}
use Rattle.fab_model.specs.Tiles.{PlainTile, matrix_names, numbered_pairs, bel_bits, tile_bits, bits_before}
use Rattle.fab_model.specs.Grid.{PlainFabric, tile_at}
use Rattle.fab_prim.specs.Modules.{module_name, module_of_kind}
use Rattle.fab_use_defs.specs.fab_gen_tile_Names.{config_module_name, config_instance_name, matrix_module_name, matrix_instance_name, bel_instance_name, bits_name, port_join, same_join}
use Rattle.fab_use_defs.specs.fab_gen_tile_ConfigModule.{all_latches, config_module}
use Rattle.fab_use_defs.specs.fab_gen_tile_TileModule.{config_joins, bits_join, bel_joins, matrix_input_names, matrix_output_names, matrix_joins, tile_items, tile_module}
use Rattle.fab_use_defs.specs.fab_gen_tile_MatrixModule.{named_pairs, matrix_module}
use Rattle.fab_fabric.specs.Fabric.{IsFabric}
use Rattle.fab_use_defs.specs.fab_tile_drives_laws_Stands.{TileStands, matrix_path, bel_path}
use Rattle.fab_use_defs.specs.fab_tile_drives_laws_Tiles.{ShowsTileBits}
use Rattle.fab_use_defs.proofs.fab_tile_drives_laws_Members.{contains_at, contains_first}
use Rattle.fab_use_defs.proofs.fab_tile_drives_laws_Modes.{bits_joined, bits_output}
use Rattle.fab_use_defs.proofs.fab_tile_drives_laws_TileNames.{tile_width, bits_wide}
use Rattle.fab_use_defs.proofs.fab_tile_drives_laws_TileItems.{config_there, matrix_found, matrix_there, bel_found, bel_there}
use Rattle.fab_use_defs.proofs.fab_tile_drives_laws_Driven.{width_of, declared_at, part_bit}
use Rattle.fab_use_defs.proofs.fab_tile_drives_laws_Latches.{all_width, all_there, latches_seen}
use Rattle.fab_use_defs.proofs.fab_tile_drives_laws_BitValues.{inside}
use Rattle.fab_use_defs.proofs.fab_tile_drives_laws_MatrixPorts.{bits_input, bits_width}
use Rattle.fab_use_defs.proofs.fab_tile_drives_laws_NamedPairs.{bits_same}
use Rattle.fab_use_defs.proofs.fab_tile_drives_laws_PinPorts.{config_input, config_width, config_joined, bits_within}
use Rattle.fab_use_defs.specs.fab_drives_laws_Points.{place_path}
use Rattle.fab_use_defs.specs.fab_text_loads_laws_Points.{config_path, in_configuration}
use Rattle.fab_use_defs.specs.fab_fabric_text_defs_Mode.{text_mode}
use Rattle.fab_use_defs.specs.fab_fabric_text_defs_Texts.{IsFabricText}
use Rattle.fab_use_defs.proofs.fab_text_loads_laws_Drivers.{assigned_by, joined_to, joined_from}
use Rattle.fab_use_defs.proofs.fab_text_loads_laws_Declared.{bit_below}
use Rattle.fab_use_defs.proofs.fab_text_loads_laws_Within.{AreWithin, expression_within, only_name, copy_within}
use Rattle.fab_use_defs.proofs.fab_text_loads_laws_InMode.{config_in}
use Rattle.fab_use_defs.proofs.fab_text_loads_laws_Carried.{Carries, carried, configuration_shows}
use Rattle.fab_ternary_laws.specs.Shown.{Terns}
use Rattle.fab_points_laws.specs.Known.{KnowsTile}
use Rattle.fab_use_defs.specs.fab_drives_laws_Points.{ShowsBits}
use Rattle.fab_use_defs.specs.fab_text_loads_laws_Loads.{IsConfigured}
use Rattle.fab_model.specs.Drive.{PlainBits}
use Rattle.fab_points_laws.specs.Laws.{LoadedIsKnown, ShownIsKnown}

module _ (fabric : PlainFabric) (text : List PlainModule) (carries : Carries fabric text) (x y : ℕ) (tile : PlainTile) (there : tile_at fabric x y ≡ Some tile) where
  abbrev mode : Mode
  mode = text_mode fabric

  abbrev path : Path
  path = place_path x y

  abbrev stands : TileStands mode text path tile
  stands = carries.tiles.stands x y tile there

  abbrev Are : Path → List ℕ → Type 0
  Are = AreWithin text carries.flops

  pub loads : (path : Path) (name : List ℕ) (bit : ℕ) → Are path name → is_declared text (point path name bit) ≡ true → IsLoading text (point path name bit)
  loads path name bit are declared = (carries.flops, carries.closed, are bit declared)

  -- the bits that come out of the configuration
  config_bits_within : Are (config_path x y) config_name
  config_bits_within bit = carries.named (point (config_path x y) config_name bit) (in_configuration x y tile there refl)

  module _ (some : 0 < tile_bits tile) where
    -- the wire in the tile
    pub wire_within : Are path bits_name
    wire_within bit declared =
        let below : bit < width_of (tile_module mode tile) bits_name = bit_below text path (tile_module mode tile) bits_name bit stands.tile_is declared in
        let wide : tile_width mode tile bits_name ≡ tile_bits tile = bits_wide mode tile some in
        let inner_wide = all_width mode tile in
        let inner : is_declared text (point (config_path x y) config_name bit) ≡ true =
        declared_at text (config_path x y) (config_module mode tile) config_name bit (config_in fabric mode refl text carries.tiles x y tile there some)
        (omega (arith, below, wide, inner_wide)) in
        copy_within text carries.flops (point path bits_name bit) (point (config_path x y) config_name bit) declared
        (joined_from text path (tile_module mode tile) stands.tile_is (config_module mode tile) (config_module_name tile) config_instance_name (config_joins mode)
        (stands.config_is some) (config_there mode tile some) config_name bits_name bit (bits_joined mode) (bits_output mode (tile_bits tile)))
        (config_bits_within bit inner)

    -- an instance that has some of the bits
    module _ (inner : PlainModule) (module_name name : List ℕ) (joins : List PlainJoin) (here : module_at text (name ∷ path) ≡ Some inner) (named : module_named text module_name ≡ Some inner)
        (item : Contains (tile_items mode tile) (instance module_name name joins)) (low last : ℕ) (among : Contains joins (port_join config_name (part bits_name (low + last) low)))
        (input : is_input inner.ports config_name ≡ true) where
      port_drives : (bit : ℕ) → Drives text (point (name ∷ path) config_name bit) (bit_of path (part bits_name (low + last) low) bit)
      port_drives bit =
          joined_to text path (tile_module mode tile) stands.tile_is inner module_name name joins named item config_name (part bits_name (low + last) low) bit among input

      instance_within : Are (name ∷ path) config_name
      instance_within bit declared =
          expression_within text carries.flops (point (name ∷ path) config_name bit) path (part bits_name (low + last) low) bit declared (port_drives bit)
          (only_name text carries.flops path bits_name wire_within)

    -- the bits of an instance that has some
    pub instance_loads : (inner : PlainModule) (module_name name : List ℕ) (joins : List PlainJoin) → module_at text (name ∷ path) ≡ Some inner → module_named text module_name ≡ Some inner →
        Contains (tile_items mode tile) (instance module_name name joins) → is_input inner.ports config_name ≡ true → (low count : ℕ) →
        ((join : PlainJoin) → Contains (bits_join low count) join → Contains joins join) → 0 < count → Are (name ∷ path) config_name
    instance_loads inner module_name name joins here named item input low zero among more = absurd (omega arith)
    instance_loads inner module_name name joins here named item input low (suc last) among more =
        let join = port_join config_name (part bits_name (low + last) low) in
        instance_within inner module_name name joins here named item low last (among join (contains_first join [])) input

    -- ---- values

    module _ (bits : ℕ → Bool) (inputs held now : Assignment) (shows : ShowsTileBits path tile bits now) (settled : IsSettledOn (IsLoading text) text inputs held now) where
      port_value : (bit : ℕ) → bit < tile_bits tile → now (point (config_path x y) config_name bit) ≡ bits bit
      port_value bit few =
          let inner = config_in fabric mode refl text carries.tiles x y tile there some in
          let inner_wide = all_width mode tile in
          settled (point (config_path x y) config_name bit) (bit_of (config_path x y) (all_latches (tile_bits tile)) bit)
          (loads (config_path x y) config_name bit config_bits_within
          (declared_at text (config_path x y) (config_module mode tile) config_name bit inner (omega (arith, few, inner_wide))))
          (assigned_by text (config_path x y) (config_module mode tile) inner config_name (all_latches (tile_bits tile)) bit (all_there mode tile))
          ∙ latches_seen mode text now (config_path x y) tile inner bit few
          ∙ shows bit few

      wire_value : (bit : ℕ) → bit < tile_bits tile → now (point path bits_name bit) ≡ bits bit
      wire_value bit few =
          let wide : tile_width mode tile bits_name ≡ tile_bits tile = bits_wide mode tile some in
          settled (point path bits_name bit) (copy (point (config_path x y) config_name bit))
          (loads path bits_name bit wire_within (declared_at text path (tile_module mode tile) bits_name bit stands.tile_is (omega arith)))
          (joined_from text path (tile_module mode tile) stands.tile_is (config_module mode tile) (config_module_name tile) config_instance_name (config_joins mode)
          (stands.config_is some) (config_there mode tile some) config_name bits_name bit (bits_joined mode) (bits_output mode (tile_bits tile)))
          ∙ port_value bit few

      module _ (inner : PlainModule) (module_name name : List ℕ) (joins : List PlainJoin) (here : module_at text (name ∷ path) ≡ Some inner) (named : module_named text module_name ≡ Some inner)
          (item : Contains (tile_items mode tile) (instance module_name name joins)) (input : is_input inner.ports config_name ≡ true) where
        -- the point of a bit of an instance is a loading point, with its value
        instance_value : (low count bit : ℕ) → ((join : PlainJoin) → Contains (bits_join low count) join → Contains joins join) → count ≤ width_of inner config_name →
            low + count ≤ tile_bits tile → bit < count → Are (name ∷ path) config_name × (now (point (name ∷ path) config_name bit) ≡ bits (low + bit))
        instance_value low zero bit among wide within few = absurd (omega arith)
        instance_value low (suc last) bit among wide within few =
            let join = port_join config_name (part bits_name (low + last) low) in
            let there_is = among join (contains_first join []) in
            let all : tile_width mode tile bits_name ≡ tile_bits tile = bits_wide mode tile some in
            let are = instance_within inner module_name name joins here named item low last there_is input in (
              are,
              settled (point (name ∷ path) config_name bit) (bit_of path (part bits_name (low + last) low) bit)
                  (loads (name ∷ path) config_name bit are (declared_at text (name ∷ path) inner config_name bit here (omega arith)))
                  (port_drives inner module_name name joins here named item low last there_is input bit)
                  ∙ part_bit text now path (tile_module mode tile) stands.tile_is bits_name low last bit (omega arith) (omega arith)
                  ∙ wire_value (low + bit) (omega arith),
            )

  -- ---- where they are used

  module _ (bits : ℕ → Bool) (inputs held now : Assignment) (shows : ShowsTileBits path tile bits now) (settled : IsSettledOn (IsLoading text) text inputs held now) where
    matrix_value : (bit : ℕ) → 0 < length (matrix_output_names tile) → bit < select_bits nat_eq (numbered_pairs tile) →
        IsLoading text (point (matrix_path path) config_name bit) × (now (point (matrix_path path) config_name bit) ≡ bits (bel_bits tile + bit))
    matrix_value bit outputs few =
        let inner = matrix_module tile in
        let count = select_bits nat_eq (numbered_pairs tile) in
        let here : module_at text (matrix_path path) ≡ Some inner = inside mode text path tile matrix_instance_name _ inner stands.tile_is (matrix_found mode tile outputs) (stands.matrix_is outputs) in
        let same : select_bits nat_eq (named_pairs tile) ≡ count = bits_same (matrix_names tile) tile.pairs in
        let wide : width_of inner config_name ≡ select_bits nat_eq (named_pairs tile) = bits_width tile (omega arith) in
        let got = instance_value (omega arith) bits inputs held now shows settled inner (matrix_module_name tile) matrix_instance_name (matrix_joins tile) here (stands.matrix_is outputs)
        (matrix_there mode tile outputs) (bits_input tile (omega arith)) (bel_bits tile) count bit
        (λ join among. Contains-append_right (map same_join (matrix_input_names tile)) (bits_join (bel_bits tile) count ++ map same_join (matrix_output_names tile)) join
        (Contains-append_left (bits_join (bel_bits tile) count) (map same_join (matrix_output_names tile)) join among))
        (omega arith) (omega arith) few in
        (loads (matrix_path path) config_name bit got.0 (declared_at text (matrix_path path) inner config_name bit here (omega arith)), got.1)

    module _ (bel : ℕ) (found : Bel) (at : slice_get tile.bels bel ≡ Some found) where
      of_kind : module_named text (module_name found.kind) ≡ Some (module_of_kind found.kind)
      of_kind =
          All-contains (λ (b : Bel). module_named text (module_name b.kind) ≡ Some (module_of_kind b.kind)) tile.bels found stands.kinds_are (contains_at tile.bels bel found at)

      bel_here : module_at text (bel_path path bel) ≡ Some (module_of_kind found.kind)
      bel_here = inside mode text path tile (bel_instance_name bel) _ (module_of_kind found.kind) stands.tile_is (bel_found mode tile bel found at) of_kind

      bel_got : (bit : ℕ) → bit < bit_count found.kind → Are (bel_path path bel) config_name × (now (point (bel_path path bel) config_name bit) ≡ bits (bits_before tile.bels bel + bit))
      bel_got bit few =
          let low = bits_before tile.bels bel in
          let width : width_of (module_of_kind found.kind) config_name ≡ bit_count found.kind = config_width found.kind (omega arith) in
          let enough : low + bit_count found.kind ≤ bel_bits tile = bits_within tile.bels bel found at in
          instance_value (omega arith) bits inputs held now shows settled (module_of_kind found.kind) (module_name found.kind) (bel_instance_name bel) (bel_joins bel low found) bel_here of_kind
          (bel_there mode tile bel found at) (config_input found.kind (omega arith)) low (bit_count found.kind) bit (config_joined bel low found) (omega arith) (omega arith) few

      bel_declared : (bit : ℕ) → bit < bit_count found.kind → is_declared text (point (bel_path path bel) config_name bit) ≡ true
      bel_declared bit few =
          let width : width_of (module_of_kind found.kind) config_name ≡ bit_count found.kind = config_width found.kind (omega arith) in
          declared_at text (bel_path path bel) (module_of_kind found.kind) config_name bit bel_here (omega arith)

      bel_value : (bit : ℕ) → bit < bit_count found.kind →
          IsLoading text (point (bel_path path bel) config_name bit) × (now (point (bel_path path bel) config_name bit) ≡ bits (bits_before tile.bels bel + bit))
      bel_value bit few = (let got = bel_got bit few in (loads (bel_path path bel) config_name bit got.0 (bel_declared bit few), got.1))

      -- the table of a LUT
      table_value : (bit : ℕ) → found.kind ≡ kinds.Lut4c → bit < 16 →
          IsLoading text (point (bel_path path bel) (codes "init") bit) × (now (point (bel_path path bel) (codes "init") bit) ≡ bits (bits_before tile.bels bel + bit))
      table_value bit kind_is few =
          let lut = module_of_kind kinds.Lut4c in
          let here : module_at text (bel_path path bel) ≡ Some lut = bel_here ∙ ap (λ kind. Some (module_of_kind kind)) kind_is in
          let enough : bit < bit_count found.kind = subst (λ kind. bit < bit_count kind) (sym kind_is) (omega arith) in
          let drives = assigned_by text (bel_path path bel) lut here (codes "init") (part config_name 15 0) bit (4, omega arith, refl) in
          let got = bel_got bit enough in
          let inner : IsLoading text (point (bel_path path bel) (codes "init") bit) =
          loads (bel_path path bel) (codes "init") bit
          (λ other declared. expression_within text carries.flops (point (bel_path path bel) (codes "init") other) (bel_path path bel) (part config_name 15 0) other declared
          (assigned_by text (bel_path path bel) lut here (codes "init") (part config_name 15 0) other (4, omega arith, refl))
          (only_name text carries.flops (bel_path path bel) config_name got.0))
          (declared_at text (bel_path path bel) lut (codes "init") bit here few) in (
            inner,
            settled (point (bel_path path bel) (codes "init") bit) (bit_of (bel_path path bel) (part config_name 15 0) bit) inner drives
                ∙ part_bit text now (bel_path path bel) lut here config_name 0 15 bit (omega arith) (omega arith)
                ∙ ap (λ n. now (point (bel_path path bel) config_name n)) (let e : 0 + bit ≡ bit = omega arith in e)
                ∙ got.1,
          )

    knows_tile : (t : Terns) → ((p : Point) → IsLoading text p → t p ≡ known (now p)) → KnowsTile path tile bits t
    knows_tile t known_is = record {
      selects = λ bit outputs few. let v = matrix_value bit outputs few in known_is (point (matrix_path path) config_name bit) v.0 ∙ ap known v.1;
      bels = λ bel bit found at few. let v = bel_value bel found at bit few in known_is (point (bel_path path bel) config_name bit) v.0 ∙ ap known v.1;
      tables = λ bel bit found at kind_is few. let v = table_value bel found at bit kind_is few in known_is (point (bel_path path bel) (codes "init") bit) v.0 ∙ ap known v.1;
    }

pub shown_is_known : ShownIsKnown
shown_is_known fabric text bits inputs held now t is is_text shows settled known_is x y tile there =
    knows_tile fabric text (carried fabric text is is_text) x y tile there (bits x y) inputs held now (shows x y tile there) settled t known_is

-- what keeps the bits of a configured text shows them
pub configured_show : (fabric : PlainFabric) (text : List PlainModule) (bits : PlainBits) (inputs held now : Assignment) → IsFabric fabric → IsFabricText fabric text →
    IsConfigured fabric bits held → IsSettledOn (IsLoading text) text inputs held now → ShowsBits fabric bits now
configured_show fabric text bits inputs held now is is_text = configuration_shows fabric text is is_text bits inputs held now

pub loaded_is_known : LoadedIsKnown
loaded_is_known fabric text bits inputs held now t is is_text configured settled known_is =
    shown_is_known fabric text bits inputs held now t is is_text (configured_show fabric text bits inputs held now is is_text configured settled) settled known_is
