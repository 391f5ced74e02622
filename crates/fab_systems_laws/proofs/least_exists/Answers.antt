use Rattle.std.proofs.Common.{length}
use Rattle.fab_systems_laws.proofs.Least.{round, rounds_least}
use Rattle.fab_systems_laws.proofs.least_exists.Goals as goal

pub returns : goal.returns
returns g c has points show listed monotone old = (round has show old (length points), rounds_least has show old monotone points listed)
