-- The modules of a fabric's text in their order: primitives, tiles, the loader where there is one, and the top.
use Rattle.std.specs.Prelude.{ℕ, zero, suc, Bool, false, List, [], ◌∷◌, ◌++◌, map, filter, nat_eq}
use Rattle.std.specs.List.{flat_map, list_any, enumerate_from}
use Rattle.std.specs.Option.{option_map_or}
use Rattle.fab_kinds.specs.declared.kind.Kind.{Kind}
use Rattle.fab_kinds.specs.declared.kind.Kind.TheVariants as kinds
use Rattle.fab_syntax.specs.Plain.{PlainModule}
use Rattle.fab_gen_tile.specs.fab_prim.specs.Modules.{module_of_kind}
use Rattle.fab_gen_tile.specs.fab_model.specs.declared.mode.Mode.{Mode}
use Rattle.fab_gen_tile.specs.fab_model.specs.Tiles.{PlainTile, tile_bits}
use Rattle.fab_gen_tile.specs.fab_model.specs.Grid.{PlainFabric}
use Rattle.fab_fabric.specs.Sites.{same_kind}
use Rattle.fab_gen_tile.specs.TileModule.{tile_module, matrix_output_names}
use Rattle.fab_gen_tile.specs.ConfigModule.{config_module}
use Rattle.fab_gen_tile.specs.MatrixModule.{matrix_module}
use Rattle.fab_fabric_text_defs.specs.Mode.{text_mode}
use Rattle.fab_fabric_text_defs.specs.Top.{top_module}

-- ---- what stands in the grid

-- whether the type of this number stands at some place
abbrev pub stands : PlainFabric → (number : ℕ) → Bool
stands fabric number = list_any (λ place. option_map_or (nat_eq number) place false) fabric.grid

-- the types that stand somewhere, in the order of their definition
abbrev pub standing_types : PlainFabric → List PlainTile
standing_types fabric = map (λ numbered. numbered.1) (filter (λ numbered. stands fabric numbered.0) (enumerate_from 0 fabric.types))

-- whether a BEL of this kind stands somewhere
abbrev pub is_used : PlainFabric → Kind → Bool
is_used fabric kind = list_any (λ tile. list_any (λ bel. same_kind bel.kind kind) tile.bels) (standing_types fabric)

abbrev pub used_kinds : PlainFabric → List Kind
used_kinds fabric = filter (is_used fabric) (kinds.Lut4c ∷ kinds.Io ∷ kinds.Mux8 ∷ [])

-- ---- modules

-- the matrix, where the tile has an output of it
abbrev pub matrix_modules : PlainTile → (outputs : List (List ℕ)) → List PlainModule
matrix_modules tile [] = []
matrix_modules tile (output ∷ outputs) = matrix_module tile ∷ []

-- the configuration, where there are bits
abbrev pub config_modules : Mode → PlainTile → (bits : ℕ) → List PlainModule
config_modules mode tile zero = []
config_modules mode tile (suc n) = config_module mode tile ∷ []

abbrev pub tile_modules : Mode → PlainTile → List PlainModule
tile_modules mode tile =
    matrix_modules tile (matrix_output_names tile) ++ (config_modules mode tile (tile_bits tile) ++ tile_module mode tile ∷ [])

-- The text of a fabric with these loaders: one in frames, none in a chain.
abbrev pub fabric_text : PlainFabric → (loaders : List PlainModule) → List PlainModule
fabric_text fabric loaders =
    map module_of_kind (used_kinds fabric)
    ++ (flat_map (tile_modules (text_mode fabric)) (standing_types fabric)
    ++ (loaders ++ top_module fabric ∷ []))
