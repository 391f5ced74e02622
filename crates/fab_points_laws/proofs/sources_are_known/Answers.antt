use Rattle.fab_points_laws.proofs.Laws.{sources_are_known}
use Rattle.fab_points_laws.proofs.sources_are_known.Goals as goal

pub returns : goal.returns
returns c = sources_are_known
