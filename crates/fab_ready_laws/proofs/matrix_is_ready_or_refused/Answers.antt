use Rattle.fab_judged_laws.proofs.ListFiles.{pairs_judged}
use Rattle.fab_ready_laws.proofs.matrix_is_ready_or_refused.Goals as goal

pub returns : goal.returns
returns c = pairs_judged
