use Rattle.fab_meaning.specs.Points.{module_at}
use Rattle.fab_values.proofs.Agreement as agreement
use Rattle.fab_values.proofs.laws.bits_are_names.Goals as goal

pub returns : goal.returns
returns c = λ text now path name. agreement.bits_are_names (module_at text path) now path name
