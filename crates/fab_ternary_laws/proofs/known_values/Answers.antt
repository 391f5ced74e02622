use Rattle.fab_ternary_laws.proofs.Known.{known_value}
use Rattle.fab_ternary_laws.proofs.known_values.Goals as goal

pub returns : goal.returns
returns c names terns e h = known_value names terns e h
