use Rattle.std.proofs.Common.{◌≡◌, ◌∙◌, Global, ap}
use Rattle.std.specs.List.{position_or_len}
use Rattle.std.specs.Str.{bytes_eq}
use Rattle.indexmap.specs.IndexSet.{insert_key}
use Rattle.fab_matrix.specs.Names.{Name}
use Rattle.fab_bits.specs.Keys.{key_names}
use Rattle.fab_matrix.proofs.Places.{insert_of_names, place_of_names}
use Rattle.fab_matrix.proofs.listed.number_of.Goals as goal

pub returns-clause-keys : goal.returns-clause-keys
returns-clause-keys c =
    let old = c.args.places.now.keys in
    let name : c.in_ok-key.key.items ≡ c.args.name.now = c.in_ok-key.ensures.items ∙ c.bytes.ensures in
    ap (key_names {A = Global}) c.in_ok-place.ensures.keys
    ∙ insert_of_names old c.in_ok-key.key
    ∙ ap (insert_key bytes_eq (key_names old)) name

pub returns-clause-number : goal.returns-clause-number
returns-clause-number c =
    let old = c.args.places.now.keys in
    let name : c.in_ok-key.key.items ≡ c.args.name.now = c.in_ok-key.ensures.items ∙ c.bytes.ensures in
    c.in-Ok.ensures.1
    ∙ c.in_ok-place.ensures.index
    ∙ place_of_names c.in_ok-key.key.items old
    ∙ ap (λ (n : Name). position_or_len (bytes_eq n) (key_names old)) name
