use Rattle.fab_legal_states_laws.proofs.Bitstreams.{bitstream_short}
use Rattle.fab_legal_states_laws.proofs.bitstreams_are_short.Goals as goal

pub returns : goal.returns
returns c = λ fabric bits is. bitstream_short fabric is bits
