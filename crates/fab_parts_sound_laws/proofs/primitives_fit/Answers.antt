use Rattle.fab_parts_sound_laws.proofs.Primitives.{primitive_fits, primitive_clocks}
use Rattle.fab_parts_sound_laws.proofs.primitives_fit.Goals as goal

pub returns-clause-fits : goal.returns-clause-fits
returns-clause-fits c = primitive_fits

pub returns-clause-clocks : goal.returns-clause-clocks
returns-clause-clocks c = primitive_clocks
