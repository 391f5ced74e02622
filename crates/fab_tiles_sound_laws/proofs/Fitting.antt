-- The module of a tile fits behind the modules that it uses.
use Rattle.std.proofs.Common.{List}
use Rattle.fab_syntax.specs.Plain.{PlainModule}
use Rattle.fab_model.specs.declared.mode.Mode.{Mode}
use Rattle.fab_model.specs.Tiles.{PlainTile, IsTile}
use Rattle.fab_parts_sound_laws.specs.fab_gen_tile_Words.{IsNamed}
use Rattle.fab_parts_sound_laws.specs.fab_gen_tile_TileModule.{tile_module}
use Rattle.fab_parts_sound_laws.specs.Fits.{FitsIn}
use Rattle.fab_tiles_sound_laws.specs.Has.{HasModules}
use Rattle.fab_tiles_sound_laws.proofs.Items.{names_stand, selects_stand, widths_stand}
use Rattle.fab_tiles_sound_laws.proofs.Standing.{all_stand}
use Rattle.fab_tiles_sound_laws.proofs.Instances.{instances_fit}
use Rattle.fab_tiles_sound_laws.proofs.OneDriver.{ports_driven, items_driven}
use Rattle.fab_tiles_sound_laws.proofs.ClockUse.{clocks_fit}

pub tile_fits : (mode : Mode) (text before : List PlainModule) (tile : PlainTile) → IsTile tile → IsNamed tile → HasModules mode before tile → HasModules mode text tile → FitsIn text before (tile_module mode tile)
tile_fits mode text before tile is named has_before has =
    let stand = all_stand mode tile is named in
    record {
      names = names_stand mode tile is named stand;
      selects = selects_stand mode tile stand;
      widths = widths_stand mode tile stand;
      instances = instances_fit mode tile is named before has_before;
      ports_driven = ports_driven mode tile is named text has;
      items_driven = items_driven mode tile is named text has;
      clocks = clocks_fit mode text tile has is named;
    }
