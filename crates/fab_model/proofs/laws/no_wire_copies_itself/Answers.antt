use Rattle.fab_model.proofs.Drives.{no_copy_of_itself}
use Rattle.fab_model.proofs.laws.no_wire_copies_itself.Goals as goal

pub returns : goal.returns
returns c = no_copy_of_itself
