use Rattle.fab_meaning.proofs.SingleDrivers.{one_driver}
use Rattle.fab_meaning.proofs.laws.each_point_has_one_driver.Goals as goal

pub returns : goal.returns
returns c text once p d e a b = one_driver text once p d e a b
