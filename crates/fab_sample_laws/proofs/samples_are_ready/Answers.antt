use Rattle.fab_sample_laws.proofs.Ready.{ready}
use Rattle.fab_sample_laws.proofs.samples_are_ready.Goals as goal

pub returns : goal.returns
returns c = ready
