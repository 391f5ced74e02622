-- The modules of a fabric's text by their names.
use Rattle.std.proofs.Common.{◌≡◌, ◌≢◌, ℕ, zero, suc, ◌+◌, ◌*◌, ◌<◌, ◌≤◌, Bool, true, false, ◌&&◌, List, [], ◌∷◌, ◌++◌, length, map, filter, drop, refl, sym, ap, ◌∙◌, arith, inl, inr, Option, Some, None, All, Contains, slice_get, get_or, nat_lt, nat_eq, eq-eqb}
use Rattle.std.specs.List.{flat_map, list_any, enumerate_from}
use Rattle.std.specs.Option.{option_map_or}
use Rattle.std.specs.Str.{bytes_eq}
use Rattle.std.proofs.lemmas.Bool.{cases_Bool, or_right, or_left}
use Rattle.std.proofs.lemmas.Slice.Eq.{bytes_eq-Decides}
use Rattle.std.proofs.lemmas.List.Elements.{All-nil, All-cons, All-append, All-map, All-filter, All-weaker, Contains-append_left, Contains-append_right, All-contains_itself}
use Rattle.fab_kinds.specs.declared.kind.Kind.{Kind}
use Rattle.fab_kinds.specs.declared.kind.Kind.TheVariants as kinds
use Rattle.fab_syntax.specs.Plain.{PlainModule}
use Rattle.fab_syntax.specs.Declarations.{module_named}
use Rattle.fab_fabric_text_defs.specs.fab_meaning_Points.{last_of, module_at}
use Rattle.fab_fabric_text_defs.specs.fab_prim_Modules.{module_name, module_of_kind}
use Rattle.fab_fabric_text_defs.specs.fab_model_tiles_Bel.{Bel}
use Rattle.fab_fabric_text_defs.specs.fab_model_mode_Mode.{Mode}
use Rattle.fab_fabric_text_defs.specs.fab_model_Tiles.{PlainTile, tile_bits}
use Rattle.fab_fabric_text_defs.specs.fab_model_Grid.{PlainFabric, tile_at, numbered_type}
use Rattle.fab_fabric_text_defs.specs.fab_fabric_Fabric.{IsFabric}
use Rattle.fab_fabric_text_defs.specs.fab_gen_tile_Names.{config_module_name, matrix_module_name, tile_module_name}
use Rattle.fab_fabric_text_defs.specs.fab_gen_tile_TileModule.{tile_module, matrix_output_names}
use Rattle.fab_fabric_text_defs.specs.fab_gen_tile_ConfigModule.{config_module}
use Rattle.fab_fabric_text_defs.specs.fab_gen_tile_MatrixModule.{matrix_module}
use Rattle.fab_fabric_text_defs.specs.fab_gen_loader_Loader.{loader_module_name}
use Rattle.fab_fabric_text_defs.specs.Names.{top_module_name}
use Rattle.fab_fabric_text_defs.specs.Mode.{text_mode}
use Rattle.fab_fabric_text_defs.specs.Top.{top_module}
use Rattle.fab_fabric_text_defs.specs.fab_fabric_Sites.{same_kind}
use Rattle.fab_fabric_text_defs.specs.Text.{stands, standing_types, is_used, used_kinds, matrix_modules, config_modules, tile_modules, fabric_text}
use Rattle.fab_tile_drives_laws.proofs.Endings.{all_flat_map}
use Rattle.fab_tile_drives_laws.proofs.Members.{contains_first, contains_map, contains_at}
use Rattle.fab_drives_laws.proofs.Lists.{none_there, first_or_later, contains_flat, contains_kept, contains_numbered, all_numbered, all_of, only_one_found}
use Rattle.fab_drives_laws.proofs.Apart.{told_apart, one_of_name}

-- ---- the top

last_behind : {X : Type 0} (x : X) (xs : List X) (last : X) → last_of xs ≡ Some last → last_of (x ∷ xs) ≡ Some last
last_behind x [] last is = absurd cc
last_behind x (y ∷ xs) last is = is

last_of_both : {X : Type 0} (xs ys : List X) (last : X) → last_of ys ≡ Some last → last_of (xs ++ ys) ≡ Some last
last_of_both [] ys last is = is
last_of_both (x ∷ xs) ys last is = last_behind x (xs ++ ys) last (last_of_both xs ys last is)

-- the last module of the text is the top
pub top_is_last : (fabric : PlainFabric) (loaders : List PlainModule) → module_at (fabric_text fabric loaders) [] ≡ Some (top_module fabric)
top_is_last fabric loaders =
    let top = top_module fabric in
    let mode = text_mode fabric in
    last_of_both (map module_of_kind (used_kinds fabric)) (flat_map (tile_modules mode) (standing_types fabric) ++ (loaders ++ top ∷ [])) top
    (last_of_both (flat_map (tile_modules mode) (standing_types fabric)) (loaders ++ top ∷ []) top
    (last_of_both loaders (top ∷ []) top refl))

-- ---- the types that stand

pub any_there : {X : Type 0} (test : X → Bool) (xs : List X) (x : X) → Contains xs x → test x ≡ true → list_any test xs ≡ true
any_there test [] x there passes = absurd (none_there x there)
any_there test (first ∷ xs) x there passes =
    elim (first_or_later first xs x there) [
      | inl is ↦ or_left (test first) (list_any test xs) (ap test is ∙ passes)
      | inr other ↦ or_right (test first) (list_any test xs) (any_there test xs x other passes)
    ]

-- the number of the type at a place
numbered_at : (types : List PlainTile) (place : Option (Option ℕ)) (tile : PlainTile) → numbered_type types place ≡ Some tile →
    (number : ℕ) × (place ≡ Some (Some number)) × (slice_get types number ≡ Some tile)
numbered_at types None tile is = absurd cc
numbered_at types (Some None) tile is = absurd cc
numbered_at types (Some (Some number)) tile is = (number, refl, is)

pub numbered_tile : (fabric : PlainFabric) (x y : ℕ) (tile : PlainTile) → tile_at fabric x y ≡ Some tile →
    (number : ℕ) × (slice_get fabric.grid (y * fabric.columns + x) ≡ Some (Some number)) × (slice_get fabric.types number ≡ Some tile)
numbered_tile fabric x y tile is =
    elim (cases_Bool (nat_lt x fabric.columns && nat_lt y fabric.rows)) [
      | inl inside ↦ (
          let found : numbered_type fabric.types (slice_get fabric.grid (y * fabric.columns + x)) ≡ Some tile = rw inside at is in
          numbered_at fabric.types (slice_get fabric.grid (y * fabric.columns + x)) tile found)
      | inr outside ↦ (let none : None ≡ Some tile = rw outside at is in absurd cc)
    ]

-- the tile at a place is a type that stands
pub tile_stands : (fabric : PlainFabric) (x y : ℕ) (tile : PlainTile) → tile_at fabric x y ≡ Some tile → Contains (standing_types fabric) tile
tile_stands fabric x y tile is =
    let found = numbered_tile fabric x y tile is in
    let number = found.0 in
    let place : Option ℕ = Some number in
    let here_it_is : option_map_or (nat_eq number) place false ≡ true = eq-eqb number number refl in
    let passes : stands fabric number ≡ true =
    any_there (λ place. option_map_or (nat_eq number) place false) fabric.grid place (contains_at fabric.grid (y * fabric.columns + x) place found.1) here_it_is in
    let both : ℕ × PlainTile = (number, tile) in
    contains_map (λ (numbered : ℕ × PlainTile). numbered.1) (filter (λ (numbered : ℕ × PlainTile). stands fabric numbered.0) (enumerate_from 0 fabric.types)) both
    (contains_kept (λ (numbered : ℕ × PlainTile). stands fabric numbered.0) (enumerate_from 0 fabric.types) both (contains_numbered fabric.types number tile found.2) passes)

-- what holds of all types holds of those that stand
pub all_standing : (fabric : PlainFabric) (P : PlainTile → Type 0) → All P fabric.types → All P (standing_types fabric)
all_standing fabric P all =
    All-map P (λ (numbered : ℕ × PlainTile). numbered.1) (filter (λ (numbered : ℕ × PlainTile). stands fabric numbered.0) (enumerate_from 0 fabric.types))
    (All-filter (λ (numbered : ℕ × PlainTile). stands fabric numbered.0) (λ (numbered : ℕ × PlainTile). P numbered.1) (enumerate_from 0 fabric.types)
    (all_numbered P 0 fabric.types all))

-- the tile at a place is one of the types
pub tile_of_types : (fabric : PlainFabric) (x y : ℕ) (tile : PlainTile) → tile_at fabric x y ≡ Some tile → Contains fabric.types tile
tile_of_types fabric x y tile is = let found = numbered_tile fabric x y tile is in contains_at fabric.types found.0 tile found.2

-- ---- all modules

-- only this module has the name
abbrev pub Only : (name : List ℕ) → PlainModule → PlainModule → Type 0
Only name m other = other.name ≡ name → other ≡ m

all_of_matrix : (P : PlainModule → Type 0) (tile : PlainTile) (outputs : List (List ℕ)) → P (matrix_module tile) → All P (matrix_modules tile outputs)
all_of_matrix P tile [] is = All-nil P
all_of_matrix P tile (output ∷ outputs) is = All-cons P (matrix_module tile) [] is (All-nil P)

all_of_config : (mode : Mode) (P : PlainModule → Type 0) (tile : PlainTile) (bits : ℕ) → P (config_module mode tile) → All P (config_modules mode tile bits)
all_of_config mode P tile zero is = All-nil P
all_of_config mode P tile (suc n) is = All-cons P (config_module mode tile) [] is (All-nil P)

pub all_of_tile : (mode : Mode) (P : PlainModule → Type 0) (tile : PlainTile) → P (matrix_module tile) → P (config_module mode tile) → P (tile_module mode tile) → All P (tile_modules mode tile)
all_of_tile mode P tile matrix config whole =
    All-append P (matrix_modules tile (matrix_output_names tile)) (config_modules mode tile (tile_bits tile) ++ tile_module mode tile ∷ [])
    (all_of_matrix P tile (matrix_output_names tile) matrix)
    (All-append P (config_modules mode tile (tile_bits tile)) (tile_module mode tile ∷ []) (all_of_config mode P tile (tile_bits tile) config)
    (All-cons P (tile_module mode tile) [] whole (All-nil P)))

all_of_text : (fabric : PlainFabric) (loaders : List PlainModule) (P : PlainModule → Type 0) → ((kind : Kind) → P (module_of_kind kind)) →
    All (λ tile. All P (tile_modules (text_mode fabric) tile)) fabric.types → All P loaders → P (top_module fabric) → All P (fabric_text fabric loaders)
all_of_text fabric loaders P kind_is tiles_are loaders_are top_is =
    let mode = text_mode fabric in
    let kinds_text = map module_of_kind (used_kinds fabric) in
    let tiles_text = flat_map (tile_modules mode) (standing_types fabric) in
    All-append P kinds_text (tiles_text ++ (loaders ++ top_module fabric ∷ []))
    (All-map P module_of_kind (used_kinds fabric) (all_of (λ (kind : Kind). P (module_of_kind kind)) (used_kinds fabric) kind_is))
    (All-append P tiles_text (loaders ++ top_module fabric ∷ [])
    (all_flat_map P (tile_modules mode) (standing_types fabric) (all_standing fabric (λ tile. All P (tile_modules mode tile)) tiles_are))
    (All-append P loaders (top_module fabric ∷ []) loaders_are (All-cons P (top_module fabric) [] top_is (All-nil P))))

-- a module that is in the text and has its name alone is found by it
found_alone : (text : List PlainModule) (m : PlainModule) → Contains text m → All (Only m.name m) text → module_named text m.name ≡ Some m
found_alone text m there only =
    only_one_found (λ (other : PlainModule). bytes_eq other.name m.name) text m there ((bytes_eq-Decides m.name m.name).1 refl)
    (All-weaker (Only m.name m) (λ (other : PlainModule). bytes_eq other.name m.name ≡ true → other ≡ m)
    (λ other alone same. alone ((bytes_eq-Decides other.name m.name).0 same)) text only)

-- ---- the modules of a tile

tile_part : (fabric : PlainFabric) (loaders : List PlainModule) (x y : ℕ) (tile : PlainTile) (m : PlainModule) → tile_at fabric x y ≡ Some tile →
    Contains (tile_modules (text_mode fabric) tile) m → Contains (fabric_text fabric loaders) m
tile_part fabric loaders x y tile m is there =
    let mode = text_mode fabric in
    let tiles_text = flat_map (tile_modules mode) (standing_types fabric) in
    Contains-append_right (map module_of_kind (used_kinds fabric)) (tiles_text ++ (loaders ++ top_module fabric ∷ [])) m
    (Contains-append_left tiles_text (loaders ++ top_module fabric ∷ []) m
    (contains_flat (tile_modules mode) (standing_types fabric) tile m (tile_stands fabric x y tile is) there))

pub contains_matrix : (tile : PlainTile) (outputs : List (List ℕ)) → 0 < length outputs → Contains (matrix_modules tile outputs) (matrix_module tile)
contains_matrix tile [] some = absurd (omega arith)
contains_matrix tile (output ∷ outputs) some = contains_first (matrix_module tile) []

pub contains_config : (mode : Mode) (tile : PlainTile) (bits : ℕ) → 0 < bits → Contains (config_modules mode tile bits) (config_module mode tile)
contains_config mode tile zero some = absurd (omega arith)
contains_config mode tile (suc n) some = contains_first (config_module mode tile) []

-- ---- the names of kinds

pub low_letter : (kind : Kind) → get_or (module_name kind) 0 0 < 78
low_letter kinds.Lut4c = omega arith
low_letter kinds.Io = omega arith
low_letter kinds.Mux8 = omega arith

-- a name that begins with a letter past these is none of them
pub kind_apart : (kind : Kind) (name : List ℕ) → 78 ≤ get_or name 0 0 → module_name kind ≢ name
kind_apart kind name high same =
    let letters : get_or (module_name kind) 0 0 ≡ get_or name 0 0 = ap (λ n. get_or n 0 0) same in
    omega (arith, low_letter kind, letters, high)

pub no_loader_kind : (kind : Kind) → loader_module_name ≢ module_name kind
no_loader_kind kinds.Lut4c = told_apart 0 loader_module_name (module_name kinds.Lut4c) refl
no_loader_kind kinds.Io = told_apart 0 loader_module_name (module_name kinds.Io) refl
no_loader_kind kinds.Mux8 = told_apart 0 loader_module_name (module_name kinds.Mux8) refl

only_of_kind : (kind other : Kind) → Only (module_name kind) (module_of_kind kind) (module_of_kind other)
only_of_kind kinds.Lut4c kinds.Lut4c same = refl
only_of_kind kinds.Lut4c kinds.Io same = absurd (told_apart 0 (module_name kinds.Io) (module_name kinds.Lut4c) refl same)
only_of_kind kinds.Lut4c kinds.Mux8 same = absurd (told_apart 0 (module_name kinds.Mux8) (module_name kinds.Lut4c) refl same)
only_of_kind kinds.Io kinds.Lut4c same = absurd (told_apart 0 (module_name kinds.Lut4c) (module_name kinds.Io) refl same)
only_of_kind kinds.Io kinds.Io same = refl
only_of_kind kinds.Io kinds.Mux8 same = absurd (told_apart 0 (module_name kinds.Mux8) (module_name kinds.Io) refl same)
only_of_kind kinds.Mux8 kinds.Lut4c same = absurd (told_apart 0 (module_name kinds.Lut4c) (module_name kinds.Mux8) refl same)
only_of_kind kinds.Mux8 kinds.Io same = absurd (told_apart 0 (module_name kinds.Io) (module_name kinds.Mux8) refl same)
only_of_kind kinds.Mux8 kinds.Mux8 same = refl

pub same_kind_self : (kind : Kind) → same_kind kind kind ≡ true
same_kind_self kinds.Lut4c = refl
same_kind_self kinds.Io = refl
same_kind_self kinds.Mux8 = refl

pub all_kinds : (kind : Kind) → Contains (kinds.Lut4c ∷ kinds.Io ∷ kinds.Mux8 ∷ []) kind
all_kinds kinds.Lut4c = (0, omega arith, refl)
all_kinds kinds.Io = (1, omega arith, refl)
all_kinds kinds.Mux8 = (2, omega arith, refl)

-- ---- look-ups

module _ (fabric : PlainFabric) (loaders : List PlainModule) (is : IsFabric fabric) (named : All (λ loader. loader.name ≡ loader_module_name) loaders)
    (x y : ℕ) (tile : PlainTile) (there : tile_at fabric x y ≡ Some tile) where
  abbrev text : List PlainModule
  text = fabric_text fabric loaders

  abbrev mode : Mode
  mode = text_mode fabric

  -- the types of this name are this one
  one_type : All (λ other. other.name ≡ tile.name → other ≡ tile) fabric.types
  one_type =
      All-weaker (Contains fabric.types) (λ (other : PlainTile). other.name ≡ tile.name → other ≡ tile)
      (λ other listed same. one_of_name (λ (t : PlainTile). t.name) fabric.types other tile is.names listed (tile_of_types fabric x y tile there) same)
      fabric.types (All-contains_itself fabric.types)

  -- another name is that of no loader
  no_loader : (name : List ℕ) (m : PlainModule) → loader_module_name ≢ name → All (Only name m) loaders
  no_loader name m other =
      All-weaker (λ loader. loader.name ≡ loader_module_name) (Only name m) (λ loader is_named same. absurd (other (sym is_named ∙ same))) loaders named

  -- a module alone has a name of a tile's modules
  only_in_text : (name : List ℕ) (m : PlainModule) → 78 ≤ get_or name 0 0 → loader_module_name ≢ name → top_module_name ≢ name →
      ((other : PlainTile) → (other.name ≡ tile.name → other ≡ tile) → All (Only name m) (tile_modules mode other)) → All (Only name m) text
  only_in_text name m high other no_top in_tile =
      all_of_text fabric loaders (Only name m)
      (λ kind same. absurd (kind_apart kind name high same))
      (All-weaker (λ (other : PlainTile). other.name ≡ tile.name → other ≡ tile) (λ (other : PlainTile). All (Only name m) (tile_modules mode other)) in_tile fabric.types one_type)
      (no_loader name m other)
      (λ same. absurd (no_top same))

  pub tile_found : module_named text (tile_module_name tile) ≡ Some (tile_module mode tile)
  tile_found =
      let name = tile_module_name tile in
      found_alone text (tile_module mode tile)
      (tile_part fabric loaders x y tile (tile_module mode tile) there
      (Contains-append_right (matrix_modules tile (matrix_output_names tile)) (config_modules mode tile (tile_bits tile) ++ tile_module mode tile ∷ []) (tile_module mode tile)
      (Contains-append_right (config_modules mode tile (tile_bits tile)) (tile_module mode tile ∷ []) (tile_module mode tile) (contains_first (tile_module mode tile) []))))
      (only_in_text name (tile_module mode tile) (omega arith) (told_apart 0 loader_module_name name refl) (told_apart 0 top_module_name name refl)
      (λ other one. all_of_tile mode (Only name (tile_module mode tile)) other
      (λ same. absurd (told_apart 0 (matrix_module_name other) name refl same))
      (λ same. absurd (told_apart 0 (config_module_name other) name refl same))
      (λ same. ap (tile_module mode) (one (ap (drop 5) same)))))

  pub matrix_found : 0 < length (matrix_output_names tile) → module_named text (matrix_module_name tile) ≡ Some (matrix_module tile)
  matrix_found some =
      let name = matrix_module_name tile in
      found_alone text (matrix_module tile)
      (tile_part fabric loaders x y tile (matrix_module tile) there
      (Contains-append_left (matrix_modules tile (matrix_output_names tile)) (config_modules mode tile (tile_bits tile) ++ tile_module mode tile ∷ []) (matrix_module tile)
      (contains_matrix tile (matrix_output_names tile) some)))
      (only_in_text name (matrix_module tile) (omega arith) (told_apart 0 loader_module_name name refl) (told_apart 0 top_module_name name refl)
      (λ other one. all_of_tile mode (Only name (matrix_module tile)) other
      (λ same. ap matrix_module (one (ap (drop 7) same)))
      (λ same. absurd (told_apart 0 (config_module_name other) name refl same))
      (λ same. absurd (told_apart 0 (tile_module_name other) name refl same))))

  pub config_found : 0 < tile_bits tile → module_named text (config_module_name tile) ≡ Some (config_module mode tile)
  config_found some =
      let name = config_module_name tile in
      found_alone text (config_module mode tile)
      (tile_part fabric loaders x y tile (config_module mode tile) there
      (Contains-append_right (matrix_modules tile (matrix_output_names tile)) (config_modules mode tile (tile_bits tile) ++ tile_module mode tile ∷ []) (config_module mode tile)
      (Contains-append_left (config_modules mode tile (tile_bits tile)) (tile_module mode tile ∷ []) (config_module mode tile) (contains_config mode tile (tile_bits tile) some))))
      (only_in_text name (config_module mode tile) (omega arith) (told_apart 0 loader_module_name name refl) (told_apart 0 top_module_name name refl)
      (λ other one. all_of_tile mode (Only name (config_module mode tile)) other
      (λ same. absurd (told_apart 0 (matrix_module_name other) name refl same))
      (λ same. ap (config_module mode) (one (ap (drop 7) same)))
      (λ same. absurd (told_apart 0 (tile_module_name other) name refl same))))

  -- ---- the kinds of its BELs

  bel_is_used : (bel : Bel) → Contains tile.bels bel → is_used fabric bel.kind ≡ true
  bel_is_used bel listed =
      any_there (λ (other : PlainTile). list_any (λ (found : Bel). same_kind found.kind bel.kind) other.bels) (standing_types fabric) tile (tile_stands fabric x y tile there)
      (any_there (λ (found : Bel). same_kind found.kind bel.kind) tile.bels bel listed (same_kind_self bel.kind))

  kind_named : (bel : Bel) → Contains tile.bels bel → module_named text (module_name bel.kind) ≡ Some (module_of_kind bel.kind)
  kind_named bel listed =
      let kind = bel.kind in
      let m = module_of_kind kind in
      let used : Contains (used_kinds fabric) kind = contains_kept (is_used fabric) (kinds.Lut4c ∷ kinds.Io ∷ kinds.Mux8 ∷ []) kind (all_kinds kind) (bel_is_used bel listed) in
      found_alone text m
      (Contains-append_left (map module_of_kind (used_kinds fabric)) (flat_map (tile_modules mode) (standing_types fabric) ++ (loaders ++ top_module fabric ∷ [])) m
      (contains_map module_of_kind (used_kinds fabric) kind used))
      (all_of_text fabric loaders (Only (module_name kind) m) (only_of_kind kind)
      (all_of (λ (other : PlainTile). All (Only (module_name kind) m) (tile_modules mode other)) fabric.types
      (λ other. all_of_tile mode (Only (module_name kind) m) other
      (λ same. absurd (kind_apart kind (matrix_module_name other) (omega arith) (sym same)))
      (λ same. absurd (kind_apart kind (config_module_name other) (omega arith) (sym same)))
      (λ same. absurd (kind_apart kind (tile_module_name other) (omega arith) (sym same)))))
      (no_loader (module_name kind) m (no_loader_kind kind))
      (λ same. absurd (kind_apart kind top_module_name (omega arith) (sym same))))

  pub kinds_found : All (λ bel. module_named text (module_name bel.kind) ≡ Some (module_of_kind bel.kind)) tile.bels
  kinds_found =
      All-weaker (Contains tile.bels) (λ (bel : Bel). module_named text (module_name bel.kind) ≡ Some (module_of_kind bel.kind)) kind_named tile.bels (All-contains_itself tile.bels)
