use Rattle.fab_model.proofs.Selects.{spelled_is_selected, output_copies_selected, output_copies_first, output_without_inputs}
use Rattle.fab_model.proofs.laws.matrix_outputs_copy_what_is_selected.Goals as goal

pub returns-clause-spelled : goal.returns-clause-spelled
returns-clause-spelled c = spelled_is_selected

pub returns-clause-selected : goal.returns-clause-selected
returns-clause-selected c = output_copies_selected

pub returns-clause-behind : goal.returns-clause-behind
returns-clause-behind c = output_copies_first

pub returns-clause-without : goal.returns-clause-without
returns-clause-without c = output_without_inputs
