use Rattle.fab_points_laws.proofs.Loading.{shown_is_known}
use Rattle.fab_points_laws.proofs.shown_is_known.Goals as goal

pub returns : goal.returns
returns c = shown_is_known
