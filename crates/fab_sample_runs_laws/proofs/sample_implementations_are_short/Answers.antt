use Rattle.fab_sample_runs_laws.proofs.Simulated.{implementation_short}
use Rattle.fab_sample_runs_laws.proofs.sample_implementations_are_short.Goals as goal

pub returns : goal.returns
returns c = λ files size draws least most told allowed stored flow.
    implementation_short c.sample_designs_are_read.ensures c.designs_are_spelled_once.ensures.one_value c.spelled_designs_are_sound.ensures files size draws least most told allowed stored flow
    c.fabrics_are_spelled_once.ensures.one_value c.legal_implementations_are_short.ensures
