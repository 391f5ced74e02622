use Rattle.fab_systems_laws.proofs.Order.{below_both}
use Rattle.fab_systems_laws.proofs.least_is_unique.Goals as goal

pub returns : goal.returns
returns g c has show old t u a b p = below_both (t p) (u p) (a.least u b.solves p) (b.least t a.solves p)
