-- A tile works wherever it stands in a text, from the five parts of this.
use Rattle.std.proofs.Common.{List}
use Rattle.fab_gen_tile.specs.fab_syntax.specs.Plain.{PlainModule}
use Rattle.fab_gen_tile.specs.fab_meaning.specs.Points.{Path}
use Rattle.fab_gen_tile.specs.fab_model.specs.declared.mode.Mode.{Mode}
use Rattle.fab_gen_tile.specs.fab_model.specs.Tiles.{PlainTile, IsTile}
use Rattle.fab_tile_drives_laws.specs.Stands.{TileStands}
use Rattle.fab_tile_drives_laws.specs.Tiles.{TileWorks}
use Rattle.fab_tile_drives_laws.proofs.RowValues.{ends_show, jumps_show, begins_show}
use Rattle.fab_tile_drives_laws.proofs.PinValues.{pins_show}
use Rattle.fab_tile_drives_laws.proofs.OutputValues.{outputs_show}

pub tile_works : (mode : Mode) (text : List PlainModule) (path : Path) (tile : PlainTile) → IsTile tile → TileStands mode text path tile → TileWorks text path tile
tile_works mode text path tile is_tile stands = record {
  matrix_outputs = outputs_show mode text path tile is_tile stands;
  jumps = jumps_show mode text path tile is_tile stands;
  ends = ends_show mode text path tile is_tile stands;
  begins = begins_show mode text path tile is_tile stands;
  pins = pins_show mode text path tile stands;
}
