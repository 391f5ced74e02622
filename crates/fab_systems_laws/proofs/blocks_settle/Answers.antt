use Rattle.fab_systems_laws.proofs.Moves.{moves_settle}
use Rattle.fab_systems_laws.proofs.blocks_settle.Goals as goal

pub returns : goal.returns
returns g c has given reads rank ranks next ranked only = moves_settle has given next reads rank ranks ranked only
