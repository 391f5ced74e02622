-- No two modules of a fabric's text have one name, and so each is found by its own.
use Rattle.std.proofs.Common.{◌≡◌, ◌≢◌, ℕ, zero, suc, ◌≤◌, true, List, [], ◌∷◌, ◌++◌, map, filter, drop, get_or, refl, sym, ap, arith, Some, All, AllPairs, Contains}
use Rattle.std.specs.List.{flat_map, enumerate_from}
use Rattle.std.specs.Str.{bytes_eq}
use Rattle.std.proofs.lemmas.List.Elements.{All-nil, All-cons, All-append, All-weaker, All-contains_itself, All-map}
use Rattle.std.proofs.lemmas.List.Kept.{AllPairs-cons}
use Rattle.std.proofs.lemmas.Slice.Eq.{bytes_eq-Decides}
use Rattle.fab_kinds.specs.declared.kind.Kind.{Kind}
use Rattle.fab_kinds.specs.declared.kind.Kind.TheVariants as kinds
use Rattle.fab_syntax.specs.Plain.{PlainModule}
use Rattle.fab_syntax.specs.Declarations.{module_named}
use Rattle.fab_prim.specs.Modules.{module_name, module_of_kind}
use Rattle.fab_model.specs.declared.mode.Mode.{Mode}
use Rattle.fab_model.specs.declared.mode.Mode.TheVariants as modes
use Rattle.fab_model.specs.Tiles.{PlainTile, tile_bits}
use Rattle.fab_model.specs.Grid.{PlainFabric}
use Rattle.fab_fabric.specs.Fabric.{IsFabric}
use Rattle.fab_drives_laws.specs.fab_gen_tile_Names.{config_module_name, matrix_module_name, tile_module_name}
use Rattle.fab_drives_laws.specs.fab_gen_tile_TileModule.{tile_module, matrix_output_names}
use Rattle.fab_drives_laws.specs.fab_gen_tile_ConfigModule.{config_module}
use Rattle.fab_drives_laws.specs.fab_gen_tile_MatrixModule.{matrix_module}
use Rattle.fab_drives_laws.specs.fab_gen_loader_Expressions.{loader_module}
use Rattle.fab_drives_laws.specs.fab_gen_loader_Loader.{loader_module_name}
use Rattle.fab_drives_laws.specs.fab_fabric_text_defs_Names.{top_module_name}
use Rattle.fab_drives_laws.specs.fab_fabric_text_defs_Mode.{text_mode}
use Rattle.fab_drives_laws.specs.fab_fabric_text_defs_Top.{top_module}
use Rattle.fab_drives_laws.specs.fab_fabric_text_defs_Text.{stands, standing_types, is_used, used_kinds, matrix_modules, config_modules, tile_modules}
use Rattle.fab_drives_laws.specs.fab_fabric_text_defs_Texts.{loaders_of, generated_text}
use Rattle.fab_drives_laws.proofs.Apart.{told_apart, one_of_name}
use Rattle.fab_drives_laws.proofs.Lists.{all_of, only_one_found}
use Rattle.fab_drives_laws.proofs.Modules.{kind_apart, no_loader_kind}
use Rattle.fab_tiles_sound_laws.proofs.fab_parts_sound_laws_Lists.{all_flat_map, pairs_none, pairs_append}
use Rattle.fab_text_sound_laws.proofs.Pairs.{Between, between, one_alone, pairs_weaker, pairs_flat, pairs_map, pairs_numbered, pairs_kept}

abbrev pub NamesDiffer : PlainModule → PlainModule → Type 0
NamesDiffer a b = a.name ≢ b.name

-- a module that stands among modules with names of their own is found by its name
pub found_by_name : (modules : List PlainModule) (m : PlainModule) → AllPairs NamesDiffer modules → Contains modules m → module_named modules m.name ≡ Some m
found_by_name modules m apart there =
    only_one_found (λ (other : PlainModule). bytes_eq other.name m.name) modules m there ((bytes_eq-Decides m.name m.name).1 refl)
    (All-weaker (Contains modules) (λ (other : PlainModule). bytes_eq other.name m.name ≡ true → other ≡ m)
    (λ other listed same. one_of_name (λ (n : PlainModule). n.name) modules other m apart listed there ((bytes_eq-Decides other.name m.name).0 same)) modules (All-contains_itself modules))

-- ---- the modules of a tile

-- the name of a module of a tile
data IsOfTile (tile : PlainTile) : List ℕ → Type 0 where
  of_matrix : IsOfTile tile (matrix_module_name tile)
  of_config : IsOfTile tile (config_module_name tile)
  of_whole : IsOfTile tile (tile_module_name tile)

abbrev Owned : PlainTile → PlainModule → Type 0
Owned tile m = IsOfTile tile m.name

tiles_differ : (a b : PlainTile) → a.name ≢ b.name → (n m : List ℕ) → IsOfTile a n → IsOfTile b m → n ≢ m
tiles_differ a b differ n m of_matrix of_matrix same = differ (ap (drop 7) same)
tiles_differ a b differ n m of_matrix of_config same = told_apart 0 (matrix_module_name a) (config_module_name b) refl same
tiles_differ a b differ n m of_matrix of_whole same = told_apart 0 (matrix_module_name a) (tile_module_name b) refl same
tiles_differ a b differ n m of_config of_matrix same = told_apart 0 (config_module_name a) (matrix_module_name b) refl same
tiles_differ a b differ n m of_config of_config same = differ (ap (drop 7) same)
tiles_differ a b differ n m of_config of_whole same = told_apart 0 (config_module_name a) (tile_module_name b) refl same
tiles_differ a b differ n m of_whole of_matrix same = told_apart 0 (tile_module_name a) (matrix_module_name b) refl same
tiles_differ a b differ n m of_whole of_config same = told_apart 0 (tile_module_name a) (config_module_name b) refl same
tiles_differ a b differ n m of_whole of_whole same = differ (ap (drop 5) same)

high_letter : (tile : PlainTile) (name : List ℕ) → IsOfTile tile name → 78 ≤ get_or name 0 0
high_letter tile name of_matrix = omega arith
high_letter tile name of_config = omega arith
high_letter tile name of_whole = omega arith

no_loader : (tile : PlainTile) (name : List ℕ) → IsOfTile tile name → name ≢ loader_module_name
no_loader tile name of_matrix = told_apart 0 (matrix_module_name tile) loader_module_name refl
no_loader tile name of_config = told_apart 0 (config_module_name tile) loader_module_name refl
no_loader tile name of_whole = told_apart 0 (tile_module_name tile) loader_module_name refl

no_top : (tile : PlainTile) (name : List ℕ) → IsOfTile tile name → name ≢ top_module_name
no_top tile name of_matrix = told_apart 0 (matrix_module_name tile) top_module_name refl
no_top tile name of_config = told_apart 0 (config_module_name tile) top_module_name refl
no_top tile name of_whole = told_apart 0 (tile_module_name tile) top_module_name refl

pub all_matrices : (P : PlainModule → Type 0) (tile : PlainTile) (outputs : List (List ℕ)) → P (matrix_module tile) → All P (matrix_modules tile outputs)
all_matrices P tile [] is = All-nil P
all_matrices P tile (output ∷ outputs) is = All-cons P (matrix_module tile) [] is (All-nil P)

pub all_configs : (mode : Mode) (P : PlainModule → Type 0) (tile : PlainTile) (bits : ℕ) → P (config_module mode tile) → All P (config_modules mode tile bits)
all_configs mode P tile zero is = All-nil P
all_configs mode P tile (suc n) is = All-cons P (config_module mode tile) [] is (All-nil P)

matrices_apart : (tile : PlainTile) (outputs : List (List ℕ)) → AllPairs NamesDiffer (matrix_modules tile outputs)
matrices_apart tile [] = pairs_none NamesDiffer
matrices_apart tile (output ∷ outputs) = one_alone NamesDiffer (matrix_module tile)

configs_apart : (mode : Mode) (tile : PlainTile) (bits : ℕ) → AllPairs NamesDiffer (config_modules mode tile bits)
configs_apart mode tile zero = pairs_none NamesDiffer
configs_apart mode tile (suc n) = one_alone NamesDiffer (config_module mode tile)

all_of_one : (mode : Mode) (tile : PlainTile) → All (Owned tile) (tile_modules mode tile)
all_of_one mode tile =
    All-append (Owned tile) (matrix_modules tile (matrix_output_names tile)) (config_modules mode tile (tile_bits tile) ++ tile_module mode tile ∷ [])
    (all_matrices (Owned tile) tile (matrix_output_names tile) of_matrix)
    (All-append (Owned tile) (config_modules mode tile (tile_bits tile)) (tile_module mode tile ∷ []) (all_configs mode (Owned tile) tile (tile_bits tile) of_config)
    (All-cons (Owned tile) (tile_module mode tile) [] of_whole (All-nil (Owned tile))))

parts_apart : (mode : Mode) (tile : PlainTile) → AllPairs NamesDiffer (tile_modules mode tile)
parts_apart mode tile =
    let matrices = matrix_modules tile (matrix_output_names tile) in
    let configs = config_modules mode tile (tile_bits tile) in
    let whole = tile_module mode tile in
    let matrix = matrix_module tile in
    let config = config_module mode tile in
    pairs_append NamesDiffer matrices (configs ++ whole ∷ []) (matrices_apart tile (matrix_output_names tile))
    (pairs_append NamesDiffer configs (whole ∷ []) (configs_apart mode tile (tile_bits tile)) (one_alone NamesDiffer whole)
    (all_configs mode (λ m. All (NamesDiffer m) (whole ∷ [])) tile (tile_bits tile)
    (All-cons (NamesDiffer config) whole [] (told_apart 0 (config_module_name tile) (tile_module_name tile) refl) (All-nil (NamesDiffer config)))))
    (all_matrices (λ m. All (NamesDiffer m) (configs ++ whole ∷ [])) tile (matrix_output_names tile)
    (All-append (NamesDiffer matrix) configs (whole ∷ [])
    (all_configs mode (NamesDiffer matrix) tile (tile_bits tile) (told_apart 0 (matrix_module_name tile) (config_module_name tile) refl))
    (All-cons (NamesDiffer matrix) whole [] (told_apart 0 (matrix_module_name tile) (tile_module_name tile) refl) (All-nil (NamesDiffer matrix)))))

-- ---- the kinds

abbrev KindsDiffer : Kind → Kind → Type 0
KindsDiffer a b = module_name a ≢ module_name b

kinds_apart : AllPairs KindsDiffer (kinds.Lut4c ∷ kinds.Io ∷ kinds.Mux8 ∷ [])
kinds_apart =
    AllPairs-cons KindsDiffer kinds.Lut4c (kinds.Io ∷ kinds.Mux8 ∷ [])
    (All-cons (KindsDiffer kinds.Lut4c) kinds.Io (kinds.Mux8 ∷ []) (told_apart 0 (module_name kinds.Lut4c) (module_name kinds.Io) refl)
    (All-cons (KindsDiffer kinds.Lut4c) kinds.Mux8 [] (told_apart 0 (module_name kinds.Lut4c) (module_name kinds.Mux8) refl) (All-nil (KindsDiffer kinds.Lut4c))))
    (AllPairs-cons KindsDiffer kinds.Io (kinds.Mux8 ∷ [])
    (All-cons (KindsDiffer kinds.Io) kinds.Mux8 [] (told_apart 0 (module_name kinds.Io) (module_name kinds.Mux8) refl) (All-nil (KindsDiffer kinds.Io)))
    (one_alone KindsDiffer kinds.Mux8))

-- ---- the text

abbrev TypesDiffer : PlainTile → PlainTile → Type 0
TypesDiffer a b = a.name ≢ b.name

standing_apart : (fabric : PlainFabric) → IsFabric fabric → AllPairs TypesDiffer (standing_types fabric)
standing_apart fabric is =
    pairs_map TypesDiffer (λ (numbered : ℕ × PlainTile). numbered.1) (filter (λ (numbered : ℕ × PlainTile). stands fabric numbered.0) (enumerate_from 0 fabric.types))
    (pairs_kept (λ (a b : ℕ × PlainTile). TypesDiffer a.1 b.1) (λ (numbered : ℕ × PlainTile). stands fabric numbered.0) (enumerate_from 0 fabric.types)
    (pairs_numbered TypesDiffer 0 fabric.types is.names))

-- a name of a module of some tile
record IsOfSome (m : PlainModule) : Type 0 where
  tile : PlainTile
  own : IsOfTile tile m.name

-- what holds of the loader holds of the loaders of each mode
pub all_loaders : (mode : Mode) (rows : ℕ) (P : PlainModule → Type 0) → P (loader_module rows) → All P (loaders_of mode rows)
all_loaders modes.Frames rows P is = All-cons P (loader_module rows) [] is (All-nil P)
all_loaders modes.Chain rows P is = All-nil P

loaders_apart : (mode : Mode) (rows : ℕ) → AllPairs NamesDiffer (loaders_of mode rows)
loaders_apart modes.Frames rows = one_alone NamesDiffer (loader_module rows)
loaders_apart modes.Chain rows = pairs_none NamesDiffer

pub text_apart : (fabric : PlainFabric) → IsFabric fabric → AllPairs NamesDiffer (generated_text fabric)
text_apart fabric is =
    let mode = text_mode fabric in
    let loaders = loaders_of mode fabric.rows in
    let top = top_module fabric in
    let kinds_text = map module_of_kind (used_kinds fabric) in
    let tiles_text = flat_map (tile_modules mode) (standing_types fabric) in
    let of_tiles : All IsOfSome tiles_text =
    all_flat_map IsOfSome (tile_modules mode) (standing_types fabric) (all_of (λ (tile : PlainTile). All IsOfSome (tile_modules mode tile)) (standing_types fabric) (λ tile.
    All-weaker (Owned tile) IsOfSome (λ m own. record { tile = tile; own = own }) (tile_modules mode tile) (all_of_one mode tile))) in
    pairs_append NamesDiffer kinds_text (tiles_text ++ (loaders ++ top ∷ []))
    (pairs_map NamesDiffer module_of_kind (used_kinds fabric) (pairs_kept KindsDiffer (is_used fabric) (kinds.Lut4c ∷ kinds.Io ∷ kinds.Mux8 ∷ []) kinds_apart))
    (pairs_append NamesDiffer tiles_text (loaders ++ top ∷ [])
    (pairs_flat NamesDiffer (tile_modules mode) (standing_types fabric)
    (all_of (λ (tile : PlainTile). AllPairs NamesDiffer (tile_modules mode tile)) (standing_types fabric) (parts_apart mode))
    (pairs_weaker (λ (tile : PlainTile). Unit {0}) TypesDiffer (λ a b. Between NamesDiffer (tile_modules mode a) (tile_modules mode b)) (standing_types fabric)
    (λ a b of_a of_b differ. between (Owned a) (Owned b) NamesDiffer (tile_modules mode a) (tile_modules mode b) (λ m n own_m own_n. tiles_differ a b differ m.name n.name own_m own_n) (all_of_one mode a) (all_of_one mode b))
    (all_of (λ (tile : PlainTile). Unit {0}) (standing_types fabric) (λ tile. tt)) (standing_apart fabric is)))
    (pairs_append NamesDiffer loaders (top ∷ []) (loaders_apart mode fabric.rows) (one_alone NamesDiffer top)
    (all_loaders mode fabric.rows (λ m. All (NamesDiffer m) (top ∷ []))
    (All-cons (NamesDiffer (loader_module fabric.rows)) top [] (told_apart 0 loader_module_name top_module_name refl) (All-nil (NamesDiffer (loader_module fabric.rows))))))
    (All-weaker IsOfSome (λ m. All (NamesDiffer m) (loaders ++ top ∷ []))
    (λ m of. All-append (NamesDiffer m) loaders (top ∷ []) (all_loaders mode fabric.rows (NamesDiffer m) (no_loader of.tile m.name of.own))
    (All-cons (NamesDiffer m) top [] (no_top of.tile m.name of.own) (All-nil (NamesDiffer m)))) tiles_text of_tiles))
    (All-map (λ m. All (NamesDiffer m) (tiles_text ++ (loaders ++ top ∷ []))) module_of_kind (used_kinds fabric)
    (all_of (λ kind. All (NamesDiffer (module_of_kind kind)) (tiles_text ++ (loaders ++ top ∷ []))) (used_kinds fabric) (λ kind.
    All-append (NamesDiffer (module_of_kind kind)) tiles_text (loaders ++ top ∷ [])
    (All-weaker IsOfSome (NamesDiffer (module_of_kind kind)) (λ m of. kind_apart kind m.name (high_letter of.tile m.name of.own)) tiles_text of_tiles)
    (All-append (NamesDiffer (module_of_kind kind)) loaders (top ∷ []) (all_loaders mode fabric.rows (NamesDiffer (module_of_kind kind)) (λ same. no_loader_kind kind (sym same)))
    (All-cons (NamesDiffer (module_of_kind kind)) top [] (kind_apart kind top_module_name (omega arith)) (All-nil (NamesDiffer (module_of_kind kind))))))))
