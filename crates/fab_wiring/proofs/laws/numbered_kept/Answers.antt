use Rattle.fab_wiring.proofs.Left.{left_by_number}
use Rattle.fab_wiring.proofs.laws.numbered_kept.Goals as goal

pub returns : goal.returns
returns c = left_by_number
