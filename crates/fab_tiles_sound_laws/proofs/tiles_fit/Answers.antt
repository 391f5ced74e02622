use Rattle.fab_tiles_sound_laws.proofs.ClockUse.{tile_clock}
use Rattle.fab_tiles_sound_laws.proofs.Fitting.{tile_fits}
use Rattle.fab_tiles_sound_laws.proofs.tiles_fit.Goals as goal

pub returns-clause-fits : goal.returns-clause-fits
returns-clause-fits c = tile_fits

pub returns-clause-clocks : goal.returns-clause-clocks
returns-clause-clocks c = λ mode text tile port has. tile_clock mode text tile has port
