use Rattle.std.proofs.Common.{◌≡◌, ◌∙◌, Bor, None, ap, map, length, option_map, subst, sym}
use Rattle.std.proofs.lemmas.List.{length-map}
use Rattle.std.proofs.lemmas.Result.{IfOk-weaker}
use Rattle.fab_blif_models.specs.declared.model.Statement.{Statement}
use Rattle.fab_blif_models.specs.Plain.{plain_model, plain_models, plain_statement}
use Rattle.fab_instances.specs.Formals.{HasPorts}
use Rattle.fab_instances.specs.Order.{BreaksFormals, IsLeastFound}
use Rattle.fab_instances.specs.Uses.{breaking_in, lines_before, soonest_of}
use Rattle.fab_bits.specs.Keys.{key_names}
use Rattle.fab_instances.proofs.Fitting.{breaking_found}
use Rattle.fab_instances.proofs.formals.breaking_of.Goals as goal

pub returns : goal.returns
returns c =
    let models = plain_models c.args.models.now in
    let used = c.args.used.now in
    let count : length c.args.models.now ≡ length models = sym (length-map c.args.models.now plain_model) in
    let ports = map (λ names. key_names names.keys) c.deref.result.now in
    let held : HasPorts models ports = subst (HasPorts models) (sym (ap (map (λ names. key_names names.keys)) c.deref.ensures.value)) c.in_ok-ports.ensures.ports in
    let lines : map (λ (line : Bor Statement). plain_statement line.now) c.deref-2.result.now ≡ lines_before models used (length models) =
    ap (map (λ (line : Bor Statement). plain_statement line.now)) c.deref-2.ensures.value ∙ c.in_ok-lines.ensures ∙ ap (lines_before models used) count in
    let text = map (λ (line : Bor Statement). plain_statement line.now) c.deref-2.result.now in
    let names = key_names c.args.places.now.keys in
    IfOk-weaker c.soonest_breaking.result (λ found. option_map (λ at. (at.0, at.1.now)) found ≡ soonest_of (breaking_in names ports) None text)
    (λ found. IsLeastFound (BreaksFormals models) (option_map (λ at. (at.0, at.1.now)) found))
    (λ found is. breaking_found models names c.requires.places used (c.requires.size ∙ count) c.requires.used ports held (option_map (λ at. (at.0, at.1.now)) found) text lines is)
    c.soonest_breaking.ensures
