-- The whole text of a fabric is printable.
use Rattle.std.proofs.Common.{◌≡◌, ℕ, zero, suc, ◌<◌, ◌≤◌, List, [], ◌∷◌, ◌++◌, map, length, get_or, refl, arith, length-append, All}
use Rattle.std.specs.List.{flat_map}
use Rattle.std.proofs.lemmas.List.Elements.{All-append, All-cons, All-nil, All-map}
use Rattle.fab_kinds.specs.declared.kind.Kind.{Kind}
use Rattle.fab_kinds.specs.declared.kind.Kind.TheVariants.{Lut4c, Io, Mux8}
use Rattle.fab_syntax.specs.Plain.{PlainModule}
use Rattle.fab_prim.specs.Modules.{module_of_kind}
use Rattle.fab_model.specs.declared.mode.Mode.{Mode}
use Rattle.fab_model.specs.Tables.{HasTable}
use Rattle.fab_model.specs.Tiles.{PlainTile, IsTile, tile_bits}
use Rattle.fab_model.specs.Grid.{PlainFabric}
use Rattle.fab_fabric.specs.Fabric.{AreTiles, IsFabric}
use Rattle.fab_gen_tile.specs.ConfigModule.{config_module}
use Rattle.fab_gen_tile.specs.MatrixModule.{matrix_module}
use Rattle.fab_gen_tile.specs.TileModule.{matrix_output_names, tile_module}
use Rattle.fab_drives_laws.specs.fab_fabric_text_defs_Text.{config_modules, fabric_text, matrix_modules, standing_types, tile_modules, used_kinds}
use Rattle.fab_drives_laws.specs.fab_fabric_text_defs_Mode.{text_mode}
use Rattle.fab_drives_laws.specs.fab_fabric_text_defs_Top.{top_module}
use Rattle.fab_tile_drives_laws.proofs.Endings.{all_flat_map}
use Rattle.fab_drives_laws.proofs.Modules.{all_standing}
use Rattle.fab_tokens.specs.Tokens.{keyword_of}
use Rattle.fab_grammar_defs.specs.Printable.{IsModule, IsPrintableText}
use Rattle.fab_text_reads_laws.specs.Laws.{IsWritten}
use Rattle.fab_text_reads_laws.proofs.Each.{modules_of}
use Rattle.fab_text_reads_laws.proofs.Tested.{tested_module}
use Rattle.fab_text_reads_laws.proofs.TileTexts.{config_printable, matrix_printable}
use Rattle.fab_text_reads_laws.proofs.TileModules.{tile_printable}
use Rattle.fab_text_reads_laws.proofs.TopTexts.{top_printable}

kind_printable : (kind : Kind) → IsModule (module_of_kind kind)
unfolding keyword_of
kind_printable Lut4c = tested_module (module_of_kind Lut4c) refl
kind_printable Io = tested_module (module_of_kind Io) refl
kind_printable Mux8 = tested_module (module_of_kind Mux8) refl

-- what is known of a type
record Stands (tile : PlainTile) : Type 0 where
  is_tile : IsTile tile
  few_bels : length tile.bels ≤ 26
  table : HasTable tile
  written : IsWritten tile

matrices : (tile : PlainTile) → Stands tile → (outputs : List (List ℕ)) → All IsModule (matrix_modules tile outputs)
matrices tile stands [] = All-nil IsModule
matrices tile stands (output ∷ outputs) = All-cons IsModule (matrix_module tile) [] (matrix_printable tile stands.is_tile stands.written) (All-nil IsModule)

configurations : (mode : Mode) (tile : PlainTile) → Stands tile → (bits : ℕ) → tile_bits tile ≡ bits → All IsModule (config_modules mode tile bits)
configurations mode tile stands zero is = All-nil IsModule
configurations mode tile stands (suc n) is = All-cons IsModule (config_module mode tile) [] (config_printable tile stands.table stands.written (omega (arith, is)) mode) (All-nil IsModule)

modules_printable : (mode : Mode) (tile : PlainTile) → Stands tile → All IsModule (tile_modules mode tile)
modules_printable mode tile stands =
    All-append IsModule (matrix_modules tile (matrix_output_names tile)) _ (matrices tile stands (matrix_output_names tile))
    (All-append IsModule (config_modules mode tile (tile_bits tile)) _ (configurations mode tile stands (tile_bits tile) refl)
    (All-cons IsModule (tile_module mode tile) [] (tile_printable mode tile stands.is_tile stands.few_bels stands.written) (All-nil IsModule)))

pub texts_printable : (fabric : PlainFabric) (loaders : List PlainModule) → IsFabric fabric → AreTiles fabric → All IsWritten fabric.types → All IsModule loaders →
    IsPrintableText (fabric_text fabric loaders)
texts_printable fabric loaders is tiles written loaders_are = (some, modules_of (fabric_text fabric loaders) all) where
  standing : All Stands (standing_types fabric)
  standing = all_standing fabric Stands (λ k d few. record { is_tile = tiles k d few; few_bels = is.few_bels k d few; table = is.tables k d few; written = written k d few })

  all : All IsModule (fabric_text fabric loaders)
  all =
      All-append IsModule (map module_of_kind (used_kinds fabric)) _
      (All-map IsModule module_of_kind (used_kinds fabric) (λ k d few. kind_printable (get_or (used_kinds fabric) k d)))
      (All-append IsModule (flat_map (tile_modules (text_mode fabric)) (standing_types fabric)) (loaders ++ top_module fabric ∷ [])
      (all_flat_map IsModule (tile_modules (text_mode fabric)) (standing_types fabric) (λ k d few. modules_printable (text_mode fabric) (get_or (standing_types fabric) k d) (standing k d few)))
      (All-append IsModule loaders (top_module fabric ∷ []) loaders_are (All-cons IsModule (top_module fabric) [] (top_printable fabric is written) (All-nil IsModule))))

  some : 0 < length (fabric_text fabric loaders)
  some =
      let first = length-append (map module_of_kind (used_kinds fabric)) (flat_map (tile_modules (text_mode fabric)) (standing_types fabric) ++ (loaders ++ top_module fabric ∷ [])) in
      let second = length-append (flat_map (tile_modules (text_mode fabric)) (standing_types fabric)) (loaders ++ top_module fabric ∷ []) in
      let third = length-append loaders (top_module fabric ∷ []) in
      omega (arith, first, second, third)
