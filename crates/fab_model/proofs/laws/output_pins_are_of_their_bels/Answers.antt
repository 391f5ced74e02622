use Rattle.fab_model.proofs.Drives.{output_pin_is_of_bel}
use Rattle.fab_model.proofs.laws.output_pins_are_of_their_bels.Goals as goal

pub returns : goal.returns
returns c = output_pin_is_of_bel
