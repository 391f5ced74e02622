use Rattle.fab_ready_laws.proofs.Simulations.{stimulus_judged}
use Rattle.fab_ready_laws.proofs.stimuli_are_judged.Goals as goal

pub returns : goal.returns
returns c = stimulus_judged
