use Rattle.fab_assemble.proofs.Released.{bit_maps_release_pads}
use Rattle.fab_assemble.proofs.laws.bit_maps_release_pads.Goals as goal

pub returns : goal.returns
returns c = bit_maps_release_pads c.first_zero_releases.ensures
