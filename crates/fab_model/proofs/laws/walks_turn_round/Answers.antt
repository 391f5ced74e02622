use Rattle.fab_model.proofs.Found.{to_and_from, from_and_to}
use Rattle.fab_model.proofs.laws.walks_turn_round.Goals as goal

pub returns-clause-back : goal.returns-clause-back
returns-clause-back c = to_and_from

pub returns-clause-forth : goal.returns-clause-forth
returns-clause-forth c = from_and_to
