use Rattle.fab_legal_states_laws.proofs.Ports.{stream_there}
use Rattle.fab_legal_states_laws.proofs.fabric_texts_have_streams.Goals as goal

pub returns : goal.returns
returns c = stream_there
