use Rattle.std.proofs.Common.{refl}
use Rattle.fab_systems_laws.specs.Steps.{blocks_then}
use Rattle.fab_meaning.proofs.Settling.{steps_settle}
use Rattle.fab_meaning.proofs.SingleDrivers.{one_driver}
use Rattle.fab_meaning.proofs.UserSteps.{steps_beside}
use Rattle.fab_meaning.proofs.laws.loaded_blocks_settle.Goals as goal

pub returns : goal.returns
returns c text once has given driver rank ranks driven ranked steady before after inputs settled loaded s agree blocks more all enough steps =
    steps_settle text has given driver rank ranks driven ranked inputs before.held steady before after settled (λ p h. refl) s agree blocks more all enough
    (steps_beside text (one_driver text once) has given driver (blocks_then blocks more) before after loaded steps)
