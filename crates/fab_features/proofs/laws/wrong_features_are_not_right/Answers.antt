use Rattle.fab_features.proofs.Chosen.{wrong_not_right}
use Rattle.fab_features.proofs.laws.wrong_features_are_not_right.Goals as goal

pub returns : goal.returns
returns c = wrong_not_right
