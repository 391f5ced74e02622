use Rattle.fab_ready_laws.proofs.Blifs.{netlists_judged}
use Rattle.fab_ready_laws.proofs.Designs.{map_judged}
use Rattle.fab_ready_laws.proofs.map_is_ready_or_refused.Goals as goal

pub returns : goal.returns
returns c = λ files names. map_judged files (netlists_judged files) names
