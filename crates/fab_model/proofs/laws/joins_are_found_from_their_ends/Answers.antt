use Rattle.fab_model.proofs.Found.{join_from_answers, join_from_nothing}
use Rattle.fab_model.proofs.laws.joins_are_found_from_their_ends.Goals as goal

pub returns-clause-found : goal.returns-clause-found
returns-clause-found c = join_from_answers

pub returns-clause-nothing : goal.returns-clause-nothing
returns-clause-nothing c = join_from_nothing
