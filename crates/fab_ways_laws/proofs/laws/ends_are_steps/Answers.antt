use Rattle.fab_ways_laws.proofs.Ends.{ends_are_steps}
use Rattle.fab_ways_laws.proofs.laws.ends_are_steps.Goals as goal

pub returns : goal.returns
returns c = ends_are_steps
