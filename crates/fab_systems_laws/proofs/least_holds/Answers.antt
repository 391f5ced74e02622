use Rattle.fab_systems_laws.proofs.Least.{least_approximates}
use Rattle.fab_systems_laws.proofs.least_holds.Goals as goal

pub returns : goal.returns
returns g c has points show next listed monotone approximation old t least a settled others =
    least_approximates has show old monotone points listed next approximation t least a settled others
