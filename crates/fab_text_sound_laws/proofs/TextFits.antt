-- Each module of a fabric's text fits behind those before it, and so the text is sound.
use Rattle.std.proofs.Common.{◌≡◌, ℕ, ◌<◌, true, List, [], ◌∷◌, ◌++◌, map, length, sym, ap, ◌∙◌, subst, Some, All, AllPairs, Contains, append_assoc, append-nil}
use Rattle.std.specs.List.{flat_map, list_any}
use Rattle.std.proofs.lemmas.List.Elements.{All-head, All-tail, All-weaker, All-contains, All-contains_itself, Contains-append_left, Contains-append_right, All-map}
use Rattle.fab_kinds.specs.declared.kind.Kind.TheVariants as kinds
use Rattle.fab_syntax.specs.Plain.{PlainModule}
use Rattle.fab_syntax.specs.Declarations.{module_named}
use Rattle.fab_syntax.specs.Sound.{IsSound, ServesAsClock}
use Rattle.fab_meaning.specs.Runs.{clock_name}
use Rattle.fab_prim.specs.Modules.{module_name, module_of_kind}
use Rattle.fab_model.specs.declared.mode.Mode.{Mode}
use Rattle.fab_model.specs.declared.tiles.Bel.{Bel}
use Rattle.fab_model.specs.Tiles.{PlainTile, tile_bits, IsTile}
use Rattle.fab_model.specs.Tables.{HasTable}
use Rattle.fab_model.specs.Grid.{PlainFabric, tile_at}
use Rattle.fab_fabric.specs.Fabric.{IsFabric, AreTiles}
use Rattle.fab_drives_laws.specs.fab_gen_tile_Words.{IsNamed}
use Rattle.fab_drives_laws.specs.fab_gen_tile_TileModule.{tile_module, matrix_output_names}
use Rattle.fab_drives_laws.specs.fab_gen_tile_ConfigModule.{config_module}
use Rattle.fab_drives_laws.specs.fab_gen_tile_MatrixModule.{matrix_module}
use Rattle.fab_drives_laws.specs.fab_fabric_text_defs_Mode.{text_mode}
use Rattle.fab_drives_laws.specs.fab_fabric_text_defs_Top.{top_module}
use Rattle.fab_fabric.specs.Sites.{same_kind}
use Rattle.fab_drives_laws.specs.fab_fabric_text_defs_Text.{standing_types, is_used, used_kinds, matrix_modules, config_modules, tile_modules}
use Rattle.fab_drives_laws.specs.fab_fabric_text_defs_Texts.{loaders_of, generated_text}
use Rattle.fab_drives_laws.proofs.Lists.{contains_flat, contains_kept, all_of}
use Rattle.fab_drives_laws.proofs.Modules as listed
use Rattle.fab_drives_laws.proofs.Modules.{any_there, contains_matrix, contains_config, same_kind_self, all_kinds, tile_stands}
use Rattle.fab_tiles_sound_laws.specs.fab_parts_sound_laws_Fits.{FitsIn, AllFit}
use Rattle.fab_tiles_sound_laws.proofs.fab_parts_sound_laws_Lists.{contains_first, contains_map, pairs_left}
use Rattle.fab_tiles_sound_laws.proofs.fab_parts_sound_laws_Fitting.{fitting_is_sound}
use Rattle.fab_tiles_sound_laws.proofs.fab_parts_sound_laws_Primitives.{primitive_fits}
use Rattle.fab_tiles_sound_laws.proofs.fab_parts_sound_laws_Configurations.{config_fits}
use Rattle.fab_tiles_sound_laws.proofs.fab_parts_sound_laws_TileMatrices.{tile_matrix_fits}
use Rattle.fab_tiles_sound_laws.proofs.fab_parts_sound_laws_Loaders.{loader_fits, loader_clocks}
use Rattle.fab_tiles_sound_laws.specs.Has.{HasModules}
use Rattle.fab_tiles_sound_laws.proofs.ClockUse.{tile_clocks}
use Rattle.fab_tiles_sound_laws.proofs.Fitting.{tile_fits}
use Rattle.fab_text_sound_laws.specs.HasTop.{HasTopModules, HasTopClocks}
use Rattle.fab_text_sound_laws.proofs.TextApart.{NamesDiffer, found_by_name, all_matrices, all_configs, all_loaders, text_apart}
use Rattle.fab_text_sound_laws.proofs.TopFits.{top_fits}

-- ---- modules one after another

-- a module that fits wherever it stands
abbrev FitsAnywhere : List PlainModule → PlainModule → Type 0
FitsAnywhere text m = (before : List PlainModule) → FitsIn text before m

all_anywhere : (text before modules : List PlainModule) → All (FitsAnywhere text) modules → AllFit text before modules
all_anywhere text before [] fit = tt
all_anywhere text before (m ∷ modules) fit = (All-head (FitsAnywhere text) m modules fit before, all_anywhere text (before ++ m ∷ []) modules (All-tail (FitsAnywhere text) m modules fit))

all_both : (text before xs ys : List PlainModule) → AllFit text before xs → AllFit text (before ++ xs) ys → AllFit text before (xs ++ ys)
all_both text before [] ys first second = subst (λ front. AllFit text front ys) (append-nil before) second
all_both text before (m ∷ xs) ys first second =
    (first.0, all_both text (before ++ m ∷ []) xs ys first.1 (subst (λ front. AllFit text front ys) (sym (append_assoc before (m ∷ []) xs)) second))

-- ---- the modules that a tile uses

module _ (mode : Mode) (modules : List PlainModule) (apart : AllPairs NamesDiffer modules) (tile : PlainTile) where
  -- they are found where they stand among modules with names of their own
  has_modules : (0 < tile_bits tile → Contains modules (config_module mode tile)) → (0 < length (matrix_output_names tile) → Contains modules (matrix_module tile)) →
      All (λ bel. Contains modules (module_of_kind bel.kind)) tile.bels → HasModules mode modules tile
  has_modules configs matrices bels = record {
    config_is = λ some. found_by_name modules (config_module mode tile) apart (configs some);
    matrix_is = λ some. found_by_name modules (matrix_module tile) apart (matrices some);
    kinds_are = All-weaker (λ (bel : Bel). Contains modules (module_of_kind bel.kind)) (λ (bel : Bel). module_named modules (module_name bel.kind) ≡ Some (module_of_kind bel.kind))
        (λ bel there. found_by_name modules (module_of_kind bel.kind) apart there) tile.bels bels;
  }

module _ (fabric : PlainFabric) (is : IsFabric fabric) (are : AreTiles fabric) (named : All IsNamed fabric.types) where
  abbrev mode : Mode
  mode = text_mode fabric

  abbrev loaders : List PlainModule
  loaders = loaders_of mode fabric.rows

  abbrev text : List PlainModule
  text = generated_text fabric

  abbrev kinds_text : List PlainModule
  kinds_text = map module_of_kind (used_kinds fabric)

  abbrev tiles_text : List PlainModule
  tiles_text = flat_map (tile_modules mode) (standing_types fabric)

  apart : AllPairs NamesDiffer text
  apart = text_apart fabric is

  -- ---- where modules stand

  kind_there : (tile : PlainTile) → Contains (standing_types fabric) tile → (bel : Bel) → Contains tile.bels bel → Contains kinds_text (module_of_kind bel.kind)
  kind_there tile there bel among =
      let kind = bel.kind in
      let used : is_used fabric kind ≡ true =
      any_there (λ (other : PlainTile). list_any (λ (found : Bel). same_kind found.kind kind) other.bels) (standing_types fabric) tile there
      (any_there (λ (found : Bel). same_kind found.kind kind) tile.bels bel among (same_kind_self kind)) in
      contains_map module_of_kind (used_kinds fabric) kind (contains_kept (is_used fabric) (kinds.Lut4c ∷ kinds.Io ∷ kinds.Mux8 ∷ []) kind (all_kinds kind) used)

  -- what is known of a type that stands
  record IsReady (tile : PlainTile) : Type 0 where
    is_tile : IsTile tile
    is_named : IsNamed tile
    table : HasTable tile
    bels : All (λ bel. Contains kinds_text (module_of_kind bel.kind)) tile.bels
    there : Contains (standing_types fabric) tile

  all_ready : All IsReady (standing_types fabric)
  all_ready k d within =
      let tiles = listed.all_standing fabric IsTile are in
      let names = listed.all_standing fabric IsNamed named in
      let tables = listed.all_standing fabric HasTable is.tables in
      let there = All-contains_itself (standing_types fabric) k d within in
      record {
        is_tile = tiles k d within;
        is_named = names k d within;
        table = tables k d within;
        bels = All-weaker (Contains _) (λ (bel : Bel). Contains kinds_text (module_of_kind bel.kind)) (kind_there _ there) _ (All-contains_itself _);
        there = there;
      }

  part_there : (tile : PlainTile) (m : PlainModule) → Contains (standing_types fabric) tile → Contains (tile_modules mode tile) m → Contains text m
  part_there tile m there among =
      Contains-append_right kinds_text (tiles_text ++ (loaders ++ top_module fabric ∷ [])) m
      (Contains-append_left tiles_text (loaders ++ top_module fabric ∷ []) m (contains_flat (tile_modules mode) (standing_types fabric) tile m there among))

  matrix_part : (tile : PlainTile) → 0 < length (matrix_output_names tile) → Contains (tile_modules mode tile) (matrix_module tile)
  matrix_part tile some =
      Contains-append_left (matrix_modules tile (matrix_output_names tile)) (config_modules mode tile (tile_bits tile) ++ tile_module mode tile ∷ []) (matrix_module tile) (contains_matrix tile (matrix_output_names tile) some)

  config_part : (tile : PlainTile) → 0 < tile_bits tile → Contains (tile_modules mode tile) (config_module mode tile)
  config_part tile some =
      Contains-append_right (matrix_modules tile (matrix_output_names tile)) (config_modules mode tile (tile_bits tile) ++ tile_module mode tile ∷ []) (config_module mode tile)
      (Contains-append_left (config_modules mode tile (tile_bits tile)) (tile_module mode tile ∷ []) (config_module mode tile) (contains_config mode tile (tile_bits tile) some))

  whole_part : (tile : PlainTile) → Contains (tile_modules mode tile) (tile_module mode tile)
  whole_part tile =
      Contains-append_right (matrix_modules tile (matrix_output_names tile)) (config_modules mode tile (tile_bits tile) ++ tile_module mode tile ∷ []) (tile_module mode tile)
      (Contains-append_right (config_modules mode tile (tile_bits tile)) (tile_module mode tile ∷ []) (tile_module mode tile) (contains_first (tile_module mode tile) []))

  text_has : (tile : PlainTile) → IsReady tile → HasModules mode text tile
  text_has tile ready =
      has_modules mode text apart tile (λ some. part_there tile (config_module mode tile) ready.there (config_part tile some)) (λ some. part_there tile (matrix_module tile) ready.there (matrix_part tile some))
      (All-weaker (λ (bel : Bel). Contains kinds_text (module_of_kind bel.kind)) (λ (bel : Bel). Contains text (module_of_kind bel.kind))
      (λ bel there. Contains-append_left kinds_text (tiles_text ++ (loaders ++ top_module fabric ∷ [])) (module_of_kind bel.kind) there) tile.bels ready.bels)

  -- ---- tiles

  module _ (tile : PlainTile) (ready : IsReady tile) where
    abbrev matrices : List PlainModule
    matrices = matrix_modules tile (matrix_output_names tile)

    abbrev configs : List PlainModule
    configs = config_modules mode tile (tile_bits tile)

    front_has : (before : List PlainModule) → AllPairs NamesDiffer ((before ++ matrices) ++ configs) → All (λ bel. Contains before (module_of_kind bel.kind)) tile.bels →
        HasModules mode ((before ++ matrices) ++ configs) tile
    front_has before names_apart bels =
        let front = (before ++ matrices) ++ configs in
        has_modules mode front names_apart tile
        (λ some. Contains-append_right (before ++ matrices) configs (config_module mode tile) (contains_config mode tile (tile_bits tile) some))
        (λ some. Contains-append_left (before ++ matrices) configs (matrix_module tile) (Contains-append_right before matrices (matrix_module tile) (contains_matrix tile (matrix_output_names tile) some)))
        (All-weaker (λ (bel : Bel). Contains before (module_of_kind bel.kind)) (λ (bel : Bel). Contains front (module_of_kind bel.kind))
        (λ bel there. Contains-append_left (before ++ matrices) configs (module_of_kind bel.kind) (Contains-append_left before matrices (module_of_kind bel.kind) there)) tile.bels bels)

    tile_modules_fit : (before : List PlainModule) → AllPairs NamesDiffer ((before ++ matrices) ++ configs) → All (λ bel. Contains before (module_of_kind bel.kind)) tile.bels →
        AllFit text before (tile_modules mode tile)
    tile_modules_fit before names_apart bels =
        all_both text before matrices (configs ++ tile_module mode tile ∷ [])
        (all_anywhere text before matrices (all_matrices (FitsAnywhere text) tile (matrix_output_names tile) (λ front. tile_matrix_fits text front tile ready.is_tile)))
        (all_both text (before ++ matrices) configs (tile_module mode tile ∷ [])
        (all_anywhere text (before ++ matrices) configs (all_configs mode (FitsAnywhere text) tile (tile_bits tile) (λ front. config_fits mode tile ready.table text front)))
        (tile_fits mode text ((before ++ matrices) ++ configs) tile ready.is_tile ready.is_named (front_has before names_apart bels) (text_has tile ready), tt))

  abbrev HasKinds : List PlainModule → Type 0
  HasKinds before = All (Contains before) kinds_text

  tiles_fit_from : (before : List PlainModule) (tiles : List PlainTile) → HasKinds before → AllPairs NamesDiffer (before ++ flat_map (tile_modules mode) tiles) → All IsReady tiles →
      AllFit text before (flat_map (tile_modules mode) tiles)
  tiles_fit_from before [] has names_apart ready = tt
  tiles_fit_from before (tile ∷ tiles) has names_apart ready =
      let here = All-head IsReady tile tiles ready in
      let own_matrices = matrix_modules tile (matrix_output_names tile) in
      let own_configs = config_modules mode tile (tile_bits tile) in
      let rest = flat_map (tile_modules mode) tiles in
      let front = (before ++ own_matrices) ++ own_configs in
      let in_order : before ++ ((own_matrices ++ (own_configs ++ tile_module mode tile ∷ [])) ++ rest) ≡ front ++ tile_module mode tile ∷ rest =
      ap (λ names. before ++ names) (append_assoc own_matrices (own_configs ++ tile_module mode tile ∷ []) rest ∙ ap (λ names. own_matrices ++ names) (append_assoc own_configs (tile_module mode tile ∷ []) rest))
      ∙ sym (append_assoc before own_matrices (own_configs ++ tile_module mode tile ∷ rest)) ∙ sym (append_assoc (before ++ own_matrices) own_configs (tile_module mode tile ∷ rest)) in
      let bels : All (λ (bel : Bel). Contains before (module_of_kind bel.kind)) tile.bels =
      All-weaker (λ (bel : Bel). Contains kinds_text (module_of_kind bel.kind)) (λ (bel : Bel). Contains before (module_of_kind bel.kind))
      (λ bel there. All-contains (Contains before) kinds_text (module_of_kind bel.kind) has there) tile.bels here.bels in
      all_both text before (tile_modules mode tile) rest
      (tile_modules_fit tile here before (pairs_left NamesDiffer front (tile_module mode tile ∷ rest) (subst (AllPairs NamesDiffer) in_order names_apart)) bels)
      (tiles_fit_from (before ++ tile_modules mode tile) tiles
      (All-weaker (Contains before) (Contains (before ++ tile_modules mode tile)) (λ m there. Contains-append_left before (tile_modules mode tile) m there) kinds_text has)
      (subst (AllPairs NamesDiffer) (sym (append_assoc before (tile_modules mode tile) rest)) names_apart) (All-tail IsReady tile tiles ready))

  -- ---- the top

  ready_at : (x y : ℕ) (tile : PlainTile) → tile_at fabric x y ≡ Some tile → IsReady tile
  ready_at x y tile there = All-contains IsReady (standing_types fabric) tile all_ready (tile_stands fabric x y tile there)

  abbrev front_text : List PlainModule
  front_text = (kinds_text ++ tiles_text) ++ loaders

  front_is : text ≡ front_text ++ top_module fabric ∷ []
  front_is = sym (append_assoc kinds_text tiles_text (loaders ++ top_module fabric ∷ [])) ∙ sym (append_assoc (kinds_text ++ tiles_text) loaders (top_module fabric ∷ []))

  front_apart : AllPairs NamesDiffer front_text
  front_apart = pairs_left NamesDiffer front_text (top_module fabric ∷ []) (subst (AllPairs NamesDiffer) front_is apart)

  -- a module is found by its name
  abbrev Found : List PlainModule → PlainModule → Type 0
  Found modules m = module_named modules m.name ≡ Some m

  -- no port but CLK serves it as a clock
  abbrev HasOneClock : PlainModule → Type 0
  HasOneClock m = (port : List ℕ) → ServesAsClock text m port → port ≡ clock_name

  top_has_before : HasTopModules front_text fabric
  top_has_before = record {
    loaders_are = All-weaker (Contains loaders) (Found front_text)
        (λ loader there. found_by_name front_text loader front_apart (Contains-append_right (kinds_text ++ tiles_text) loaders loader there)) loaders (All-contains_itself loaders);
    tiles_are = λ x y tile there. found_by_name front_text (tile_module mode tile) front_apart
        (Contains-append_left (kinds_text ++ tiles_text) loaders (tile_module mode tile)
        (Contains-append_right kinds_text tiles_text (tile_module mode tile)
        (contains_flat (tile_modules mode) (standing_types fabric) tile (tile_module mode tile) (tile_stands fabric x y tile there) (whole_part tile))));
  }

  top_has : HasTopModules text fabric
  top_has = record {
    loaders_are = All-weaker (Contains loaders) (Found text)
        (λ loader there. found_by_name text loader apart
        (Contains-append_right kinds_text (tiles_text ++ (loaders ++ top_module fabric ∷ [])) loader
        (Contains-append_right tiles_text (loaders ++ top_module fabric ∷ []) loader (Contains-append_left loaders (top_module fabric ∷ []) loader there)))) loaders (All-contains_itself loaders);
    tiles_are = λ x y tile there. found_by_name text (tile_module mode tile) apart (part_there tile (tile_module mode tile) (tile_stands fabric x y tile there) (whole_part tile));
  }

  top_clocks : HasTopClocks text fabric
  top_clocks = record {
    of_loaders = all_loaders mode fabric.rows HasOneClock (loader_clocks text fabric.rows);
    of_tiles = λ x y tile there port serves. tile_clocks mode text tile (text_has tile (ready_at x y tile there)) port serves;
  }

  -- ---- together

  kinds_fit : AllFit text [] kinds_text
  kinds_fit =
      all_anywhere text [] kinds_text
      (All-map (FitsAnywhere text) module_of_kind (used_kinds fabric)
      (all_of (λ kind. FitsAnywhere text (module_of_kind kind)) (used_kinds fabric) (λ kind before. primitive_fits text before kind)))

  kinds_and_tiles_apart : AllPairs NamesDiffer (kinds_text ++ tiles_text)
  kinds_and_tiles_apart = pairs_left NamesDiffer (kinds_text ++ tiles_text) loaders front_apart

  last_fit : AllFit text (kinds_text ++ tiles_text) (loaders ++ top_module fabric ∷ [])
  last_fit =
      all_both text (kinds_text ++ tiles_text) loaders (top_module fabric ∷ [])
      (all_anywhere text (kinds_text ++ tiles_text) loaders (all_loaders mode fabric.rows (FitsAnywhere text) (λ front. loader_fits fabric.rows is.few_rows text front)))
      (top_fits fabric text front_text is are named top_has_before top_has top_clocks, tt)

  pub text_is_sound : IsSound text
  text_is_sound =
      fitting_is_sound text apart
      (all_both text [] kinds_text (tiles_text ++ (loaders ++ top_module fabric ∷ [])) kinds_fit
      (all_both text kinds_text tiles_text (loaders ++ top_module fabric ∷ [])
      (tiles_fit_from kinds_text (standing_types fabric) (All-contains_itself kinds_text) kinds_and_tiles_apart all_ready) last_fit))
