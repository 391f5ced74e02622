use Rattle.fab_list_files.proofs.Once.{one_value, one_refusal}
use Rattle.fab_list_files.proofs.laws.lists_are_spelled_once.Goals as goal

pub returns-clause-one_value : goal.returns-clause-one_value
returns-clause-one_value c = one_value

pub returns-clause-one_refusal : goal.returns-clause-one_refusal
returns-clause-one_refusal c = one_refusal
