use Rattle.std.proofs.Common.{◌∙◌, ap, Global}
use Rattle.std.specs.Str.{bytes_eq}
use Rattle.indexmap.specs.IndexSet.{insert_key}
use Rattle.fab_bits.specs.Keys.{key_names}
use Rattle.fab_model.proofs.Inserts.{names_of_insert}
use Rattle.fab_tables.proofs.Sides.{new_last}
use Rattle.fab_tables.proofs.matrix.insert_name.Goals as goal

pub returns : goal.returns
returns c =
    ap (key_names {A = Global}) c.in_ok-insert.ensures.keys
    ∙ names_of_insert c.args.names.now.keys c.in_ok-key.key
    ∙ ap (insert_key bytes_eq (key_names c.args.names.now.keys)) c.in_ok-key.ensures.items
    ∙ new_last (key_names c.args.names.now.keys) c.args.name.now c.requires
