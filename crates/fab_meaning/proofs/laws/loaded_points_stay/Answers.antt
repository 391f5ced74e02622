use Rattle.fab_meaning.proofs.SingleDrivers.{one_driver}
use Rattle.fab_meaning.proofs.UserSteps.{user_steps}
use Rattle.fab_meaning.proofs.laws.loaded_points_stay.Goals as goal

pub returns : goal.returns
returns c text once events before after loaded steps = user_steps text (one_driver text once) events before after loaded steps
