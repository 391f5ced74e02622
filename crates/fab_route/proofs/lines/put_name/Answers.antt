use Rattle.std.proofs.Common.{List, ℕ, ◌∙◌, ap}
use Rattle.std.specs.Str.{bytes_eq}
use Rattle.indexmap.specs.IndexSet.{insert_key}
use Rattle.fab_bits.specs.Keys.{key_names}
use Rattle.fab_model.proofs.Inserts.{names_of_insert}
use Rattle.fab_route.proofs.lines.put_name.Goals as goal

pub returns : goal.returns
returns c =
    ap key_names c.in_ok-insert.ensures.keys ∙ names_of_insert c.args.names.now.keys c.into_vec.result
    ∙ ap (λ (name : List ℕ). insert_key bytes_eq (key_names c.args.names.now.keys) name) (c.into_vec.ensures ∙ c.in_ok-copy.ensures)
