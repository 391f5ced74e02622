use Rattle.std.proofs.Common.{◌∙◌}
use Rattle.fab_model.proofs.Inserts.{place_of_name}
use Rattle.fab_model.proofs.numbering.place_of.Goals as goal

pub returns : goal.returns
returns c = c.get_index_of.ensures.index ∙ place_of_name c.args.name.now c.args.places.now.keys
