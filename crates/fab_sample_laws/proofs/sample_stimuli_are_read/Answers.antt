use Rattle.fab_sample_laws.proofs.SampleStimuli.{stimuli_read}
use Rattle.fab_sample_laws.proofs.sample_stimuli_are_read.Goals as goal

pub returns : goal.returns
returns c = stimuli_read
