-- What a fabric's text has of its top and of each tile, where its mode is known by another word.
use Rattle.std.proofs.Common.{◌≡◌, ℕ, ◌<◌, refl, List, ◌++◌, map, sym, subst, Some, Contains}
use Rattle.std.specs.List.{flat_map, enumerate_from}
use Rattle.std.proofs.lemmas.List.Elements.{Contains-append_left}
use Rattle.fab_syntax.specs.Plain.{PlainJoin, PlainItem, PlainModule}
use Rattle.fab_syntax.specs.Declarations.{module_named}
use Rattle.fab_meaning.specs.Points.{module_at}
use Rattle.fab_meaning.specs.Runs.{user_clock_name}
use Rattle.fab_drives_laws.specs.fab_model_mode_Mode.{Mode}
use Rattle.fab_drives_laws.specs.fab_model_mode_Mode_TheVariants as modes
use Rattle.fab_drives_laws.specs.fab_model_Tiles.{PlainTile, tile_bits}
use Rattle.fab_drives_laws.specs.fab_model_Grid.{PlainFabric, tile_at}
use Rattle.fab_drives_laws.specs.fab_gen_tile_Names.{tile_module_name, config_instance_name, same_join}
use Rattle.fab_drives_laws.specs.fab_gen_tile_ConfigModule.{config_module}
use Rattle.fab_drives_laws.specs.fab_gen_tile_TileModule.{tile_module}
use Rattle.fab_drives_laws.specs.fab_fabric_text_defs_Mode.{text_mode}
use Rattle.fab_drives_laws.specs.fab_fabric_text_defs_Places.{PlacedTile, placed_tiles}
use Rattle.fab_drives_laws.specs.fab_fabric_text_defs_Top.{carrying_items, tile_begin_wires, config_joins, row_joins, pad_joins, tile_joins, tile_instance, top_items}
use Rattle.fab_drives_laws.specs.fab_tile_drives_laws_Stands.{TileStands}
use Rattle.fab_drives_laws.specs.Points.{place_path}
use Rattle.fab_loading_laws.specs.fab_frames_Stream.{stream_mode}
use Rattle.fab_drives_laws.proofs.fab_tile_drives_laws_BitValues.{inside}
use Rattle.fab_drives_laws.proofs.fab_tile_drives_laws_Members.{contains_later}
use Rattle.fab_drives_laws.proofs.fab_tile_drives_laws_TileItems.{config_found}
use Rattle.fab_drives_laws.proofs.Texts.{HasFabric}
use Rattle.fab_text_loads_laws.specs.Points.{config_path}

-- The text of a fabric and its bitstream are in one mode. Nothing else unfolds the two words.
pub modes_agree : (fabric : PlainFabric) → text_mode fabric ≡ stream_mode fabric
unfolding text_mode stream_mode
modes_agree fabric = refl

-- a text is not in both modes
pub not_both : (mode : Mode) → mode ≡ modes.Frames → mode ≡ modes.Chain → ⊥
not_both modes.Frames frames chain = absurd cc
not_both modes.Chain frames chain = absurd cc

module _ (fabric : PlainFabric) (mode : Mode) (is : text_mode fabric ≡ mode) where
  -- what carries the bits stands in the top
  pub carrying_there : (item : PlainItem) → Contains (carrying_items mode fabric) item → Contains (top_items fabric) item
  carrying_there item there =
      Contains-append_left (carrying_items (text_mode fabric) fabric)
      (flat_map tile_begin_wires (placed_tiles fabric) ++ map (tile_instance fabric) (placed_tiles fabric)) item
      (subst (λ (m : Mode). Contains (carrying_items m fabric) item) (sym is) there)

  -- by which its bits come to a tile is joined there
  pub carrying_joined : (placed : PlacedTile) (join : PlainJoin) → Contains (config_joins mode fabric placed) join → Contains (tile_joins fabric placed) join
  carrying_joined placed join among =
      let others =
      flat_map (row_joins fabric placed) (enumerate_from 0 placed.tile.rows) ++ flat_map (pad_joins placed.x placed.y) (enumerate_from 0 placed.tile.bels) in
      contains_later (same_join user_clock_name) (config_joins (text_mode fabric) fabric placed ++ others) join
      (Contains-append_left (config_joins (text_mode fabric) fabric placed) others join
      (subst (λ (m : Mode). Contains (config_joins m fabric placed) join) (sym is) among))

  module _ (text : List PlainModule) (has : HasFabric fabric text) (x y : ℕ) (tile : PlainTile) (there : tile_at fabric x y ≡ Some tile) where
    pub stands_in : TileStands mode text (place_path x y) tile
    stands_in = subst (λ (m : Mode). TileStands m text (place_path x y) tile) is (has.stands x y tile there)

    pub module_in : module_named text (tile_module_name tile) ≡ Some (tile_module mode tile)
    module_in = subst (λ (m : Mode). module_named text (tile_module_name tile) ≡ Some (tile_module m tile)) is (has.module_is x y tile there)

    -- the configuration of a tile with bits
    pub config_in : 0 < tile_bits tile → module_at text (config_path x y) ≡ Some (config_module mode tile)
    config_in some =
        inside mode text (place_path x y) tile config_instance_name _ (config_module mode tile) stands_in.tile_is (config_found mode tile some)
        (stands_in.config_is some)
