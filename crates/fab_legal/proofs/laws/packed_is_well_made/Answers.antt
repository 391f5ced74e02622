use Rattle.fab_legal.proofs.PackedMade.{packed_is_well_made}
use Rattle.fab_legal.proofs.laws.packed_is_well_made.Goals as goal

pub returns : goal.returns
returns c = packed_is_well_made
