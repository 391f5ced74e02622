use Rattle.std.proofs.Common.{◌∙◌, ap, Global}
use Rattle.fab_kinds.specs.fab_bits.specs.Keys.{key_names}
use Rattle.fab_model.proofs.Inserts.{names_of_insert}
use Rattle.fab_model.proofs.numbering.insert_key.Goals as goal

pub returns : goal.returns
returns c = ap (key_names {A = Global}) c.in_ok-insert.ensures.keys ∙ names_of_insert c.args.places.now.keys c.args.key
