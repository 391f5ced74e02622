use Rattle.fab_points_laws.proofs.Sourced.{sources_are_of_design}
use Rattle.fab_points_laws.proofs.sources_are_of_design.Goals as goal

pub returns : goal.returns
returns c = sources_are_of_design
