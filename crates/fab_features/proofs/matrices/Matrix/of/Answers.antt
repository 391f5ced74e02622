use Rattle.fab_fabric.proofs.Pairs.{outputs_named}
use Rattle.fab_features.proofs.matrices.Matrix.of.Goals as goal

pub inputs_by_output-requires : goal.inputs_by_output-requires
inputs_by_output-requires c = outputs_named c.args.tile.now c.pairs.ensures.is_tile c.pairs.result.now c.matrix_names.result c.pairs.ensures.pairs c.matrix_names.ensures.count
