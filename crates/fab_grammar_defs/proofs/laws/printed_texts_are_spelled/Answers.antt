use Rattle.fab_grammar_defs.proofs.Printed.{texts_form}
use Rattle.fab_grammar_defs.proofs.laws.printed_texts_are_spelled.Goals as goal

pub returns : goal.returns
returns c = texts_form
