use Rattle.fab_ready_laws.proofs.Legality.{implementations_are_judged}
use Rattle.fab_ready_laws.proofs.implementations_are_judged.Goals as goal

pub returns : goal.returns
returns c = implementations_are_judged c.ends_are_steps.ensures
