use Rattle.fab_points_laws.proofs.EachSource.{sources_show}
use Rattle.fab_points_laws.proofs.sources_show.Goals as goal

pub returns : goal.returns
returns c = sources_show
