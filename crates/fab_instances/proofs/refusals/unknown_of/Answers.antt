use Rattle.std.proofs.Common.{◌≡◌, ◌∙◌, Bor, ap, map, length, sym}
use Rattle.std.proofs.lemmas.List.{length-map}
use Rattle.fab_blif_models.specs.declared.model.Statement.{Statement}
use Rattle.fab_blif_models.specs.Plain.{plain_model, plain_models, plain_statement}
use Rattle.fab_instances.specs.Uses.{lines_before}
use Rattle.fab_bits.specs.Keys.{key_names}
use Rattle.fab_instances.proofs.Found.{unknown_found}
use Rattle.fab_instances.proofs.refusals.unknown_of.Goals as goal

pub returns : goal.returns
returns c =
    let models = plain_models c.args.models.now in
    let used = c.args.used.now in
    let count : length c.args.models.now ≡ length models = sym (length-map c.args.models.now plain_model) in
    unknown_found models (key_names c.args.places.now.keys) c.requires.places used (c.requires.size ∙ count) c.requires.used _ _
    (ap (map (λ (line : Bor Statement). plain_statement line.now)) c.deref.ensures.value ∙ c.in_ok-lines.ensures ∙ ap (lines_before models used) count) c.soonest_unknown.ensures
