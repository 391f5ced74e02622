use Rattle.fab_model.proofs.Found.{join_to_answers, join_to_nothing}
use Rattle.fab_model.proofs.laws.joins_are_found.Goals as goal

pub returns-clause-found : goal.returns-clause-found
returns-clause-found c = join_to_answers

pub returns-clause-nothing : goal.returns-clause-nothing
returns-clause-nothing c = join_to_nothing
