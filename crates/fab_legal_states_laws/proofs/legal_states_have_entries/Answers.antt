use Rattle.fab_legal_states_laws.proofs.Entries.{entries_there}
use Rattle.fab_legal_states_laws.proofs.legal_states_have_entries.Goals as goal

pub returns : goal.returns
returns c = λ fabric text packed fixed implementation is are is_text legal. entries_there fabric text packed fixed implementation is are is_text legal
