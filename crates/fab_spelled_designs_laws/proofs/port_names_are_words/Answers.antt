use Rattle.fab_spelled_designs_laws.proofs.Named.{ports_are_words}
use Rattle.fab_spelled_designs_laws.proofs.port_names_are_words.Goals as goal

pub returns : goal.returns
returns c = ports_are_words
