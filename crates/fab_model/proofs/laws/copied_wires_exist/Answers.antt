use Rattle.fab_model.proofs.Drives.{copied_is_there}
use Rattle.fab_model.proofs.laws.copied_wires_exist.Goals as goal

pub returns : goal.returns
returns c = copied_is_there
