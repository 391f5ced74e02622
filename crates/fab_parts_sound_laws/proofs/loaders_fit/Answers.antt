use Rattle.fab_parts_sound_laws.proofs.Loaders.{loader_fits, loader_clocks}
use Rattle.fab_parts_sound_laws.proofs.loaders_fit.Goals as goal

pub returns-clause-fits : goal.returns-clause-fits
returns-clause-fits c text before rows some few = loader_fits rows few text before

pub returns-clause-clocks : goal.returns-clause-clocks
returns-clause-clocks c = loader_clocks
