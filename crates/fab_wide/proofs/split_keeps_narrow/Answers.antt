use Rattle.fab_wide.proofs.Stays.{split_keeps_narrow}
use Rattle.fab_wide.proofs.split_keeps_narrow.Goals as goal

pub returns : goal.returns
returns c = split_keeps_narrow
