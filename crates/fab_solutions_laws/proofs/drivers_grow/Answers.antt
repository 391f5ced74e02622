use Rattle.fab_solutions_laws.proofs.Drivers.{drivers_grow as they_grow, drivers_fit as they_fit}
use Rattle.fab_solutions_laws.proofs.drivers_grow.Goals as goal

pub returns : goal.returns
returns c = record { grow = they_grow; fit = they_fit }
