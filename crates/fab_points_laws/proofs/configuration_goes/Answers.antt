use Rattle.fab_points_laws.proofs.Configured.{configuration_goes}
use Rattle.fab_points_laws.proofs.configuration_goes.Goals as goal

pub returns : goal.returns
returns c = configuration_goes
