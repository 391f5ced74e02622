use Rattle.fab_tile_drives_laws.proofs.Together.{tile_works}
use Rattle.fab_tile_drives_laws.proofs.tiles_work.Goals as goal

pub returns : goal.returns
returns c = tile_works
