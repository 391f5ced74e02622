use Rattle.fab_flow_laws.proofs.Back.{assembled_back, features_back, flows_back}
use Rattle.fab_flow_laws.proofs.features_give_bits_back.Goals as goal

pub returns-clause-any : goal.returns-clause-any
returns-clause-any c =
    features_back c.bit_maps_are_one.ensures c.spelled_bits_are_said.ensures c.spelled_pairs_stand_once.ensures c.spelled_features_are_written.ensures

pub returns-clause-assemblies : goal.returns-clause-assemblies
returns-clause-assemblies c =
    assembled_back c.bit_maps_are_one.ensures c.bit_maps_select_inputs.ensures c.spelled_bits_are_said.ensures c.spelled_pairs_stand_once.ensures
    c.spelled_features_are_written.ensures

pub returns-clause-flows : goal.returns-clause-flows
returns-clause-flows c =
    flows_back c.bit_maps_are_one.ensures c.bit_maps_select_inputs.ensures c.spelled_bits_are_said.ensures c.spelled_pairs_stand_once.ensures
    c.spelled_features_are_written.ensures
