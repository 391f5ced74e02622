use Rattle.std.proofs.Common.{List, ℕ, ◌∙◌, ap}
use Rattle.std.specs.Str.{bytes_eq}
use Rattle.indexmap.specs.IndexSet.{insert_key}
use Rattle.fab_bits.specs.Keys.{key_names}
use Rattle.fab_implementation.specs.fab_model.proofs.Inserts.{names_of_insert}
use Rattle.fab_legal.proofs.ports.put_port.Goals as goal

pub returns : goal.returns
returns c =
    ap key_names c.in_ok-insert.ensures.keys ∙ names_of_insert c.args.ports.now.keys c.into_vec.result
    ∙ ap (λ (name : List ℕ). insert_key bytes_eq (key_names c.args.ports.now.keys) name) (c.into_vec.ensures ∙ c.in_ok-copy.ensures)
