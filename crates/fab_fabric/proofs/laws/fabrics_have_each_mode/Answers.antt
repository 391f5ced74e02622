use Rattle.fab_fabric.proofs.Kept.{is_fabric_in}
use Rattle.fab_fabric.proofs.laws.fabrics_have_each_mode.Goals as goal

pub returns : goal.returns
returns c = is_fabric_in
