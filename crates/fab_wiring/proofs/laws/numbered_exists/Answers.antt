use Rattle.fab_wiring.proofs.Numbered.{numbers_have_terns, points_have_terns}
use Rattle.fab_wiring.proofs.laws.numbered_exists.Goals as goal

pub returns-clause-numbers : goal.returns-clause-numbers
returns-clause-numbers c text t = numbers_have_terns text t

pub returns-clause-points : goal.returns-clause-points
returns-clause-points c text sound s = points_have_terns text sound s
