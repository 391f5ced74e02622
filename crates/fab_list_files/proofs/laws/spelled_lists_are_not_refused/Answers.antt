use Rattle.fab_list_files.proofs.Once.{not_both}
use Rattle.fab_list_files.proofs.laws.spelled_lists_are_not_refused.Goals as goal

pub returns : goal.returns
returns c = not_both
