use Rattle.fab_grammar_defs.proofs.Once.{text_once}
use Rattle.fab_grammar_defs.proofs.laws.texts_are_one.Goals as goal

pub returns : goal.returns
returns c = text_once
