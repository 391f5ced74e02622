use Rattle.fab_equations.proofs.Places as places
use Rattle.fab_equations.proofs.laws.names_have_points.Goals as goal

pub returns : goal.returns
returns c = λ text number i is name local found bit l. places.names_have_points text number i is name local found bit l
