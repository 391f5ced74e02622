-- The top of a fabric fits.
use Rattle.std.proofs.Common.{◌≡◌, ℕ, [], List, map, subst, All}
use Rattle.std.proofs.lemmas.List.Elements.{All-head}
use Rattle.fab_syntax.specs.Plain.{PlainModule}
use Rattle.fab_syntax.specs.Sound.{InstanceFits, ClockFits, ServesAsClock}
use Rattle.fab_meaning.specs.Runs.{clock_name, user_clock_name}
use Rattle.fab_model.specs.declared.mode.Mode.{Mode}
use Rattle.fab_model.specs.declared.mode.Mode.TheVariants as modes
use Rattle.fab_model.specs.Grid.{PlainFabric}
use Rattle.fab_fabric.specs.Names.{place_name}
use Rattle.fab_fabric.specs.Fabric.{IsFabric, AreTiles}
use Rattle.fab_drives_laws.specs.fab_gen_tile_Names.{tile_module_name}
use Rattle.fab_drives_laws.specs.fab_gen_tile_Words.{IsNamed}
use Rattle.fab_drives_laws.specs.fab_gen_tile_TileModule.{tile_ports, tile_module}
use Rattle.fab_drives_laws.specs.fab_gen_loader_Loader.{loader_ports, loader_module_name}
use Rattle.fab_drives_laws.specs.fab_gen_loader_Expressions.{loader_module}
use Rattle.fab_drives_laws.specs.fab_fabric_text_defs_Names.{loader_instance_name}
use Rattle.fab_drives_laws.specs.fab_fabric_text_defs_Places.{PlacedTile}
use Rattle.fab_drives_laws.specs.fab_fabric_text_defs_Mode.{text_mode}
use Rattle.fab_drives_laws.specs.fab_fabric_text_defs_Texts.{loaders_of}
use Rattle.fab_drives_laws.specs.fab_fabric_text_defs_Top.{loader_joins, tile_joins, top_module}
use Rattle.fab_tiles_sound_laws.specs.fab_parts_sound_laws_Fits.{FitsIn}
use Rattle.fab_tiles_sound_laws.proofs.fab_parts_sound_laws_Names.{AreApart}
use Rattle.fab_tiles_sound_laws.proofs.Joins.{port_name}
use Rattle.fab_text_sound_laws.specs.HasTop.{HasTopModules, HasTopClocks}
use Rattle.fab_text_sound_laws.proofs.Standing.{IsStanding}
use Rattle.fab_text_sound_laws.proofs.TopNets.{loader_matched, tile_matched}
use Rattle.fab_text_sound_laws.proofs.TopNamesFit.{top_names_fit}
use Rattle.fab_text_sound_laws.proofs.TopItems.{all_of_items, top_selects_fit, top_widths_fit, joins_fit, one_clock_fits, two_clocks_fit, loader_clock_joined, user_clock_joined, clock_joined}
use Rattle.fab_text_sound_laws.proofs.TopDriven.{loader_found, loader_ports_apart, tile_ports_apart, few_rows, named_tile, top_items_driven, top_ports_driven}

-- by CLK alone
loader_clock : (fabric : PlainFabric) (text : List PlainModule) → text_mode fabric ≡ modes.Frames → HasTopClocks text fabric →
    (port : List ℕ) → ServesAsClock text (loader_module fabric.rows) port → port ≡ clock_name
loader_clock fabric text frames clocks =
    let HasOneClock = λ (loader : PlainModule). (port : List ℕ) → ServesAsClock text loader port → port ≡ clock_name in
    All-head HasOneClock (loader_module fabric.rows) [] (subst (λ mode. All HasOneClock (loaders_of mode fabric.rows)) frames clocks.of_loaders)

module _ (fabric : PlainFabric) (text before : List PlainModule) (is : IsFabric fabric) (are : AreTiles fabric) (named : All IsNamed fabric.types)
    (has_before : HasTopModules before fabric) (has : HasTopModules text fabric) (clocks : HasTopClocks text fabric) where
  abbrev mode : Mode
  mode = text_mode fabric

  abbrev loader_apart : AreApart (map port_name (loader_ports fabric.rows))
  loader_apart = loader_ports_apart fabric.rows (few_rows fabric is are named text has)

  tile_apart : (p : PlacedTile) → IsStanding fabric p → AreApart (map port_name (tile_ports mode p.tile))
  tile_apart p stands = tile_ports_apart mode p.tile stands.is_tile (named_tile fabric is are named text has p stands)

  pub top_fits : FitsIn text before (top_module fabric)
  top_fits = record {
    names = top_names_fit fabric is are;
    selects = top_selects_fit fabric is are;
    widths = top_widths_fit fabric is are;
    instances = all_of_items fabric is are (InstanceFits before (top_module fabric)) (λ shape name. tt) (λ frames x within. tt)
        (λ frames. joins_fit fabric is are before loader_module_name loader_instance_name (loader_joins fabric.rows) (loader_module fabric.rows) loader_apart (loader_matched fabric frames)
        (loader_found fabric before frames has_before))
        (λ p stands. joins_fit fabric is are before (tile_module_name p.tile) (place_name p.x p.y) (tile_joins fabric p) (tile_module mode p.tile) (tile_apart p stands) (tile_matched fabric are p stands)
        (has_before.tiles_are p.x p.y p.tile stands.there));
    ports_driven = top_ports_driven fabric is are named text has;
    items_driven = top_items_driven fabric is are named text has;
    clocks = all_of_items fabric is are (ClockFits text (top_module fabric)) (λ shape name. tt) (λ frames x within. tt)
        (λ frames. one_clock_fits fabric is are text loader_module_name loader_instance_name (loader_joins fabric.rows) (loader_module fabric.rows) (loader_found fabric text frames has) clock_name
        (loader_clock_joined fabric is are fabric.rows (loader_ports fabric.rows) loader_apart (loader_matched fabric frames)) (loader_clock fabric text frames clocks))
        (λ p stands. two_clocks_fit fabric is are text (tile_module_name p.tile) (place_name p.x p.y) (tile_joins fabric p) (tile_module mode p.tile) (has.tiles_are p.x p.y p.tile stands.there)
        user_clock_name clock_name (user_clock_joined fabric is are p stands (tile_apart p stands)) (clock_joined fabric is are p stands (tile_apart p stands))
        (clocks.of_tiles p.x p.y p.tile stands.there));
  }
