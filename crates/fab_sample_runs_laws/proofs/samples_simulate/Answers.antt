use Rattle.fab_sample_runs_laws.proofs.Simulated.{simulates}
use Rattle.fab_sample_runs_laws.proofs.samples_simulate.Goals as goal

pub returns : goal.returns
returns c = λ files size draws least most told allowed stored flow.
    simulates c.sample_designs_are_read.ensures c.designs_are_spelled_once.ensures.one_value c.spelled_designs_are_sound.ensures files size draws least most told allowed stored flow
    c.legal_states_are_short.ensures c.sample_stimuli_are_read.ensures c.sample_texts_are_small.ensures c.flow_files_are_ready.ensures
