use Rattle.fab_spelled_fabrics_laws.proofs.Whole.{spelled_words}
use Rattle.fab_spelled_fabrics_laws.proofs.matrix_names_are_identifiers.Goals as goal

pub returns : goal.returns
returns c = spelled_words
