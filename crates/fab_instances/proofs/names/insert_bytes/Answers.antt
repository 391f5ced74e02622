use Rattle.std.proofs.Common.{◌≡◌, ◌∙◌, ap, Global, not, List, ℕ}
use Rattle.std.specs.Str.{bytes_eq}
use Rattle.std.specs.List.{list_any}
use Rattle.fab_bits.specs.Keys.{key_names}
use Rattle.fab_instances.proofs.Keys.{names_of_insert}
use Rattle.fab_blif_models.proofs.Sets.{any_of_names}
use Rattle.fab_instances.proofs.names.insert_bytes.Goals as goal

pub returns-clause-added : goal.returns-clause-added
returns-clause-added c =
    let name : c.in_ok-key.key.items ≡ c.args.name.now = c.in_ok-key.ensures.items in
    c.in_ok-added.ensures.added ∙ ap not (any_of_names c.in_ok-key.key.items c.args.names.now.keys ∙ ap (λ (n : List ℕ). list_any (bytes_eq n) (key_names c.args.names.now.keys)) name)

pub returns-clause-names : goal.returns-clause-names
returns-clause-names c =
    let name : c.in_ok-key.key.items ≡ c.args.name.now = c.in_ok-key.ensures.items in
    let added : _ ≡ not (list_any (bytes_eq c.args.name.now) (key_names c.args.names.now.keys)) = c.in_ok-added.ensures.added ∙ ap not (any_of_names c.in_ok-key.key.items c.args.names.now.keys ∙ ap (λ (n : List ℕ). list_any (bytes_eq n) (key_names c.args.names.now.keys)) name) in
    ap (key_names {A = Global}) c.in_ok-added.ensures.keys ∙ names_of_insert c.args.names.now.keys c.in_ok-key.key c.args.name.now _ name added
