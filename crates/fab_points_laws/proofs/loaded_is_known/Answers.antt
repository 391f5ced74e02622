use Rattle.fab_points_laws.proofs.Loading.{loaded_is_known}
use Rattle.fab_points_laws.proofs.loaded_is_known.Goals as goal

pub returns : goal.returns
returns c = loaded_is_known
