use Rattle.fab_ternary_laws.proofs.Drivers.{driver_known}
use Rattle.fab_ternary_laws.proofs.known_drivers.Goals as goal

pub returns : goal.returns
returns c text inputs held now t p d each = driver_known text inputs held now t p d each
