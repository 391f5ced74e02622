use Rattle.fab_parts_sound_laws.proofs.Configurations.{config_fits, config_clocks}
use Rattle.fab_parts_sound_laws.proofs.configurations_fit.Goals as goal

pub returns-clause-fits : goal.returns-clause-fits
returns-clause-fits c mode text before tile table = config_fits mode tile table text before

pub returns-clause-clocks : goal.returns-clause-clocks
returns-clause-clocks c = config_clocks
