use Rattle.fab_flow_laws.proofs.Ready.{ready}
use Rattle.fab_flow_laws.proofs.flow_files_are_ready.Goals as goal

pub returns : goal.returns
returns c =
    ready c.flow_files_stand.ensures c.generated_texts_are_read.ensures c.spelled_designs_are_sound.ensures c.legal_designs_are_spelled.ensures c.fabric_texts_have_streams.ensures
    c.legal_states_have_entries.ensures
    c.bitstreams_are_short.ensures
