use Rattle.fab_solutions_laws.proofs.Drivers.{given_shown}
use Rattle.fab_solutions_laws.proofs.given_is_shown.Goals as goal

pub returns : goal.returns
returns c text inputs held t p d = given_shown text inputs held t p d
