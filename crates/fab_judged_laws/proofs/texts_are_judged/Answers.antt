use Rattle.fab_judged_laws.proofs.Texts.{lines_judged, texts_judged}
use Rattle.fab_judged_laws.proofs.texts_are_judged.Goals as goal

pub returns-clause-lines : goal.returns-clause-lines
returns-clause-lines c = lines_judged

pub returns-clause-tables : goal.returns-clause-tables
returns-clause-tables c = texts_judged
