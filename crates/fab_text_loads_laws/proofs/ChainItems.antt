-- What stands in the text of a fabric in a chain: the items that keep the bits of a tile and lead them on, and the clock of those that keep them.
use Rattle.std.proofs.Common.{◌≡◌, ℕ, zero, suc, ◌<◌, List, [], ◌∷◌, ◌++◌, map, refl, ap, ◌∙◌, arith, None, Some, Contains}
use Rattle.std.specs.List.{flat_map, enumerate_from}
use Rattle.std.proofs.lemmas.List.Elements.{Contains-append_left, Contains-append_right}
use Rattle.fab_syntax.specs.declared.tree.Shape.TheVariants.{Scalar}
use Rattle.fab_syntax.specs.Plain.{PlainItem, PlainModule, variable, reg, wire}
use Rattle.fab_meaning.specs.Points.{instance_in, module_of, module_at}
use Rattle.fab_meaning.specs.Runs.{clock_name, user_clock_name, join_named, clock_of}
use Rattle.fab_meaning.proofs.Clocks.{clock_below, clock_at_top}
use Rattle.fab_drives_laws.specs.fab_model_mode_Mode.{Mode}
use Rattle.fab_drives_laws.specs.fab_model_mode_Mode_TheVariants as modes
use Rattle.fab_drives_laws.specs.fab_model_Tiles.{PlainTile, counted, tile_bits, matrix_names}
use Rattle.fab_drives_laws.specs.fab_model_Grid.{PlainFabric, tile_at}
use Rattle.fab_drives_laws.specs.fab_fabric_Names.{place_name}
use Rattle.fab_drives_laws.specs.fab_fabric_Fabric.{IsFabric}
use Rattle.fab_drives_laws.specs.fab_gen_tile_Names.{config_module_name, config_instance_name, latch_name, same_join}
use Rattle.fab_drives_laws.specs.fab_gen_tile_Borders.{row_assigns}
use Rattle.fab_drives_laws.specs.fab_gen_tile_ConfigModule.{before_bit, bit_flop, chain_end, keeping_items, config_items, config_module}
use Rattle.fab_drives_laws.specs.fab_gen_tile_TileModule.{bits_wire, config_joins, config_instances, matrix_output_names, matrix_instances, bel_instances, tile_items, tile_module}
use Rattle.fab_drives_laws.specs.fab_fabric_text_defs_Mode.{text_mode}
use Rattle.fab_drives_laws.specs.fab_fabric_text_defs_Names.{loader_instance_name}
use Rattle.fab_drives_laws.specs.fab_fabric_text_defs_Top.{config_joins as carrying_joins, row_joins, pad_joins, top_items, top_module}
use Rattle.fab_drives_laws.specs.fab_tile_drives_laws_Stands.{TileStands}
use Rattle.fab_drives_laws.specs.Points.{place_path}
use Rattle.fab_drives_laws.proofs.fab_tile_drives_laws_Members.{contains_first, contains_counted}
use Rattle.fab_drives_laws.proofs.fab_tile_drives_laws_TileItems.{config_found}
use Rattle.fab_drives_laws.proofs.Apart.{told_apart}
use Rattle.fab_drives_laws.proofs.Instances.{all_of_top, found_tile, tile_instance_found}
use Rattle.fab_drives_laws.proofs.Places.{placed_tile}
use Rattle.fab_text_loads_laws.specs.Points.{loader_path, config_path}
use Rattle.fab_text_loads_laws.proofs.InMode.{not_both, stands_in, config_in}
use Rattle.fab_text_loads_laws.proofs.Loader.{HasChain}
use Rattle.fab_text_loads_laws.proofs.TileItems.{IsNotCalled, none_named}

-- ---- items

-- what stands in place of a configuration
none_configured : (tile : PlainTile) (bits : ℕ) → bits ≡ 0 → Contains (config_instances modes.Chain tile bits) (chain_end 0)
none_configured tile zero none = contains_first (chain_end 0) []
none_configured tile (suc bits) none = absurd (omega (arith, none))

-- a tile without bits leads on what comes
pub end_in_tile : (tile : PlainTile) → tile_bits tile ≡ 0 → Contains (tile_items modes.Chain tile) (chain_end 0)
end_in_tile tile none =
    let rest = matrix_instances tile (matrix_output_names tile) ++ bel_instances tile.bels in
    let config = config_instances modes.Chain tile (tile_bits tile) in
    Contains-append_right (map (wire Scalar) (matrix_names tile)) (bits_wire (tile_bits tile) ++ (flat_map row_assigns tile.rows ++ (config ++ rest)))
    (chain_end 0)
    (Contains-append_right (bits_wire (tile_bits tile)) (flat_map row_assigns tile.rows ++ (config ++ rest)) (chain_end 0)
    (Contains-append_right (flat_map row_assigns tile.rows) (config ++ rest) (chain_end 0)
    (Contains-append_left config rest (chain_end 0) (none_configured tile (tile_bits tile) none))))

kept_there : (tile : PlainTile) (item : PlainItem) → Contains (keeping_items modes.Chain tile) item → Contains (config_items modes.Chain tile) item
kept_there tile item there =
    Contains-append_right (counted (tile_bits tile) (λ bit. reg Scalar (latch_name bit))) _ item
    (Contains-append_left (keeping_items modes.Chain tile) _ item there)

pub flop_there : (tile : PlainTile) (bit : ℕ) → bit < tile_bits tile → Contains (config_items modes.Chain tile) (bit_flop bit)
flop_there tile bit few =
    kept_there tile (bit_flop bit)
    (Contains-append_left (counted (tile_bits tile) bit_flop) (chain_end (tile_bits tile) ∷ []) (bit_flop bit)
    (contains_counted (tile_bits tile) bit_flop bit few))

-- and one with bits what its last bit is
pub end_there : (tile : PlainTile) → Contains (config_items modes.Chain tile) (chain_end (tile_bits tile))
end_there tile =
    let item = chain_end (tile_bits tile) in
    kept_there tile item (Contains-append_right (counted (tile_bits tile) bit_flop) (item ∷ []) item (contains_first item []))

pub last_before : (bits : ℕ) → 0 < bits → (last : ℕ) × (bits ≡ suc last) × (before_bit bits ≡ latch_name last)
last_before zero some = absurd (omega arith)
last_before (suc last) some = (last, refl, refl)

module _ (fabric : PlainFabric) (text : List PlainModule) (has : HasChain fabric text) where
  -- there is no loader
  pub no_loader : module_at text loader_path ≡ None
  no_loader =
      let P = IsNotCalled loader_instance_name in
      ap (λ m. module_of text (instance_in m loader_instance_name)) has.tiles.top_is
      ∙ ap (module_of text) (none_named (top_items fabric) loader_instance_name
      (all_of_top fabric P (λ name. tt) (λ name. tt) (λ name. tt) (λ x. tt) (λ frames. absurd (not_both (text_mode fabric) frames has.chain))
      (λ placed there. told_apart 0 (place_name placed.x placed.y) loader_instance_name refl)))

  -- ---- the clock

  module _ (is : IsFabric fabric) (x y : ℕ) (tile : PlainTile) (there : tile_at fabric x y ≡ Some tile) where
    abbrev stands : TileStands modes.Chain text (place_path x y) tile
    stands = stands_in fabric modes.Chain has.chain text has.tiles x y tile there

    -- CLK of a tile is joined to CLK
    clock_joined : join_named (found_tile fabric (placed_tile x y tile)).joins clock_name ≡ Some (variable clock_name)
    clock_joined =
        let placed = placed_tile x y tile in
        let others = flat_map (row_joins fabric placed) (enumerate_from 0 tile.rows) ++ flat_map (pad_joins x y) (enumerate_from 0 tile.bels) in
        ap (λ (m : Mode). join_named (same_join user_clock_name ∷ (carrying_joins m fabric placed ++ others)) clock_name) has.chain

    -- the clock of a configuration is CLK of the top
    pub config_clock : 0 < tile_bits tile → clock_of text (config_path x y) clock_name ≡ Some clock_name
    config_clock some =
        clock_below text (place_path x y) config_instance_name clock_name (config_module modes.Chain tile)
        (record { module_name = config_module_name tile; joins = config_joins modes.Chain }) clock_name
        (config_in fabric modes.Chain has.chain text has.tiles x y tile there some) refl
        (ap (λ m. instance_in m config_instance_name) stands.tile_is ∙ config_found modes.Chain tile some) refl
        ∙ clock_below text [] (place_name x y) clock_name (tile_module modes.Chain tile)
        (found_tile fabric (placed_tile x y tile)) clock_name stands.tile_is refl
        (ap (λ m. instance_in m (place_name x y)) has.tiles.top_is ∙ tile_instance_found fabric is x y tile there) clock_joined
        ∙ clock_at_top text (top_module fabric) clock_name has.tiles.top_is refl
