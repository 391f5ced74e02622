use Rattle.fab_model.proofs.Drives.{output_copies_paired}
use Rattle.fab_model.proofs.laws.matrix_outputs_copy_their_inputs.Goals as goal

pub returns : goal.returns
returns c = output_copies_paired
