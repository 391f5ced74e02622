use Rattle.std.proofs.Common.{◌∙◌}
use Rattle.fab_blif_models.proofs.Sets.{any_of_names}
use Rattle.fab_blif_models.proofs.judging.is_among.Goals as goal

pub returns : goal.returns
returns c = c.contains.ensures ∙ any_of_names c.args.name.now c.args.names.now.keys
