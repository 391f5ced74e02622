use Rattle.std.proofs.Common.{◌≡◌, ◌∙◌, Bool, Bor, List, ap, map, length, sym}
use Rattle.std.proofs.lemmas.List.{length-map}
use Rattle.fab_blif_models.specs.declared.model.Statement.{Statement}
use Rattle.fab_blif_models.specs.Plain.{plain_model, plain_models, plain_statement}
use Rattle.fab_instances.specs.Uses.{lines_before}
use Rattle.fab_bits.specs.Keys.{key_names}
use Rattle.fab_instances.proofs.Recursions.{recursive_found}
use Rattle.fab_instances.proofs.recursion.recursive_at.Goals as goal

pub returns : goal.returns
returns c =
    let models = plain_models c.args.models.now in
    let users = c.in_ok-users.users.items in
    let count : length c.args.models.now ≡ length models = sym (length-map c.args.models.now plain_model) in
    recursive_found models (key_names c.args.places.now.keys) c.requires.places users c.args.place (c.in_ok-users.ensures.size ∙ count) c.in_ok-users.ensures.uses c.requires.used _ _
    (ap (map (λ (line : Bor Statement). plain_statement line.now)) c.deref-2.ensures.value ∙ c.in_ok-lines.ensures
    ∙ ap (λ (marks : List Bool). lines_before models marks (length c.args.models.now)) c.deref.ensures.value ∙ ap (lines_before models users) count) c.soonest_instance.ensures
