use Rattle.fab_legal_states_laws.proofs.Implementations.{implementation_short}
use Rattle.fab_legal_states_laws.proofs.legal_implementations_are_short.Goals as goal

pub returns : goal.returns
returns c = λ fabric packed fixed implementation is tiles made legal is_design wires names. implementation_short fabric is tiles packed made fixed implementation legal wires names is_design
