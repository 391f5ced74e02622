use Rattle.fab_flow_laws.proofs.OneMap.{bit_maps_are_one}
use Rattle.fab_flow_laws.proofs.bit_maps_are_one.Goals as goal

pub returns : goal.returns
returns c = bit_maps_are_one
