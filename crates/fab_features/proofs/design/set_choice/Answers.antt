use Rattle.std.proofs.Common.{◌∙◌}
use Rattle.fab_fabric.specs.Bits.{plain_bits}
use Rattle.fab_features.proofs.Setting.{no_choice, choice_fits, choice_adds}
use Rattle.fab_features.proofs.design.set_choice.Goals as goal

pub returns-in_default-clause-adds : goal.returns-in_default-clause-adds
returns-in_default-clause-adds c =
    no_choice (plain_bits c.args.bits.now) c.args.tile.now c.args.choice c.inputs_of-inputs.result.now (c.inputs_of-inputs.ensures ∙ c.requires.matrix.inputs c.args.choice.output) c.in_default.ensures

pub set_ones-requires-clause-fits : goal.set_ones-requires-clause-fits
set_ones-requires-clause-fits c =
    choice_fits c.args.fabric.now c.args.choice.x c.args.choice.y c.args.choice.output c.field-low.result.0 c.field-low.result.1 c.args.tile.now c.requires.tile c.field-low.ensures

pub returns-clause-adds : goal.returns-clause-adds
returns-clause-adds c =
    choice_adds (plain_bits c.args.bits.now) (plain_bits c.set_ones.new.bits) c.args.tile.now c.args.choice c.inputs_of-inputs.result.now c.field-low.result.0 c.field-low.result.1 c.in-Some.place
    (c.inputs_of-inputs.ensures ∙ c.requires.matrix.inputs c.args.choice.output) c.in-Some.ensures c.field-low.ensures c.set_ones.ensures.adds
