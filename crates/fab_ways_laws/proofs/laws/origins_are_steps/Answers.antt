use Rattle.fab_ways_laws.proofs.Origins.{origins_are_steps}
use Rattle.fab_ways_laws.proofs.laws.origins_are_steps.Goals as goal

pub returns : goal.returns
returns c = origins_are_steps
