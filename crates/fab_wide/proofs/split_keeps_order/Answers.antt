use Rattle.fab_wide.proofs.Heights.{split_keeps_order}
use Rattle.fab_wide.proofs.split_keeps_order.Goals as goal

pub returns : goal.returns
returns c = split_keeps_order
