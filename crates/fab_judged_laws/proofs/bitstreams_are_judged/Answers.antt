use Rattle.fab_judged_laws.proofs.Bitstreams.{words_judged}
use Rattle.fab_judged_laws.proofs.bitstreams_are_judged.Goals as goal

pub returns : goal.returns
returns c = words_judged
