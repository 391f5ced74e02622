use Rattle.std.proofs.Common.{◌∙◌, ap, position, List, ℕ}
use Rattle.std.specs.Str.{bytes_eq}
use Rattle.fab_bits.specs.Keys.{key_names}
use Rattle.fab_instances.proofs.Keys.{place_of_name}
use Rattle.fab_instances.proofs.names.place_of.Goals as goal

pub returns-clause-place : goal.returns-clause-place
returns-clause-place c =
    let names = key_names c.args.places.now.keys in
    c.get_index_of.ensures.index
    ∙ place_of_name c.bytes.result.now c.args.places.now.keys
    ∙ ap (λ (name : List ℕ). position (bytes_eq name) names) c.bytes.ensures
