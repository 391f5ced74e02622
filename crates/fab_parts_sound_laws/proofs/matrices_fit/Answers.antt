use Rattle.fab_parts_sound_laws.proofs.TileMatrices.{tile_matrix_fits, tile_matrix_clocks}
use Rattle.fab_parts_sound_laws.proofs.matrices_fit.Goals as goal

pub returns-clause-fits : goal.returns-clause-fits
returns-clause-fits c text before tile is_tile is_named = tile_matrix_fits text before tile is_tile

pub returns-clause-clocks : goal.returns-clause-clocks
returns-clause-clocks c = tile_matrix_clocks
