use Rattle.fab_features.proofs.PartsOfNames.{names_are_read}
use Rattle.fab_features.proofs.laws.names_are_read.Goals as goal

pub returns : goal.returns
returns c = names_are_read
