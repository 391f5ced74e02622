use Rattle.fab_flow_laws.proofs.Selecting.{bit_maps_select_inputs}
use Rattle.fab_flow_laws.proofs.bit_maps_select_inputs.Goals as goal

pub returns : goal.returns
returns c = bit_maps_select_inputs
