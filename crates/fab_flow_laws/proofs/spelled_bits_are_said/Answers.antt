use Rattle.fab_flow_laws.proofs.SpelledMaps.{spelled_bits_are_said}
use Rattle.fab_flow_laws.proofs.spelled_bits_are_said.Goals as goal

pub returns : goal.returns
returns c = spelled_bits_are_said
