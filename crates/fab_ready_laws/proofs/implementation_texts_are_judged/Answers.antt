use Rattle.fab_ready_laws.proofs.Commands.{implementation_text_judged}
use Rattle.fab_ready_laws.proofs.implementation_texts_are_judged.Goals as goal

pub returns : goal.returns
returns c = implementation_text_judged
