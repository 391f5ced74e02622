use Rattle.fab_points_laws.proofs.Example.{small_settles}
use Rattle.fab_points_laws.proofs.small_design_settles_once.Goals as goal

pub returns : goal.returns
returns c = small_settles c.ranked_design_settles_once.ensures
