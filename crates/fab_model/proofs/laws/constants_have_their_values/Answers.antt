use Rattle.fab_model.proofs.Drives.{high_is_one, low_is_zero}
use Rattle.fab_model.proofs.laws.constants_have_their_values.Goals as goal

pub returns-clause-high : goal.returns-clause-high
returns-clause-high c = high_is_one

pub returns-clause-low : goal.returns-clause-low
returns-clause-low c = low_is_zero
