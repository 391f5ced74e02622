use Rattle.fab_flow_laws.proofs.Flowed.{simulates_flow}
use Rattle.fab_flow_laws.proofs.flow_files_simulate.Goals as goal

pub returns : goal.returns
returns c =
    simulates_flow c.flow_files_stand.ensures c.generated_texts_are_read.ensures c.legal_designs_simulate.ensures c.legal_designs_simulate_in_order.ensures c.spelled_designs_are_sound.ensures c.legal_designs_are_spelled.ensures
