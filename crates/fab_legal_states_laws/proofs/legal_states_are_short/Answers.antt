use Rattle.fab_legal_states_laws.proofs.States.{state_short}
use Rattle.fab_legal_states_laws.proofs.legal_states_are_short.Goals as goal

pub returns : goal.returns
returns c = λ fabric packed fixed implementation is made legal names. state_short fabric is packed made fixed implementation legal names
