use Rattle.std.proofs.Common.{◌∙◌}
use Rattle.fab_tables.proofs.Sides.{any_name}
use Rattle.fab_tables.proofs.matrix.is_among.Goals as goal

pub returns : goal.returns
returns c = c.contains.ensures ∙ any_name c.args.name.now c.args.names.now.keys
