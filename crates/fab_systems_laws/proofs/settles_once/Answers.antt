use Rattle.fab_systems_laws.proofs.Solutions.{settled_by_rounds, settled_agree}
use Rattle.fab_systems_laws.proofs.Rounds.{rounds}
use Rattle.fab_systems_laws.proofs.settles_once.Goals as goal

pub returns : goal.returns
returns g c has given reads rank ranks next ranked only =
    ((λ old. (rounds has next old ranks, settled_by_rounds has given reads rank ranks next ranked only old)), settled_agree has given reads rank ranks next ranked only)
