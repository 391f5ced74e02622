use Rattle.fab_flow_laws.proofs.Written.{assembled_features, flow_features}
use Rattle.fab_flow_laws.proofs.written_features_are_their_bits.Goals as goal

pub returns-clause-assemblies : goal.returns-clause-assemblies
returns-clause-assemblies c = assembled_features c.bit_maps_are_one.ensures c.design_features_are_right.ensures c.legal_designs_are_spelled.ensures

pub returns-clause-flows : goal.returns-clause-flows
returns-clause-flows c = flow_features c.bit_maps_are_one.ensures c.design_features_are_right.ensures c.legal_designs_are_spelled.ensures
