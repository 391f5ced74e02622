use Rattle.fab_stimulus.proofs.ReadBack.{spelled_is_read}
use Rattle.fab_stimulus.proofs.laws.spelled_stimuli_are_read.Goals as goal

pub returns : goal.returns
returns c = spelled_is_read
