use Rattle.fab_judged_laws.proofs.ListFiles.{pairs_judged}
use Rattle.fab_judged_laws.proofs.lists_are_judged.Goals as goal

pub returns : goal.returns
returns c = pairs_judged
