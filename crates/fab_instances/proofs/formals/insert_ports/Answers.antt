use Rattle.std.proofs.Common.{◌++◌, OnOk, List, ℕ, sym, subst}
use Rattle.fab_blif_models.specs.declared.model.Body.{Body}
use Rattle.fab_blif_models.specs.Plain.{plain_body}
use Rattle.fab_instances.specs.Formals.{SameNames, ports_by}
use Rattle.fab_bits.specs.Keys.{key_names}
use Rattle.fab_instances.proofs.formals.insert_ports.Goals as goal

pub returns-in-Clock : goal.returns-in-Clock
returns-in-Clock c =
    subst (λ (body : Body). OnOk c.insert_name.result (SameNames (key_names c.insert_name.new.ports.keys) (key_names c.args.ports.now.keys ++ ports_by (plain_body body)))) (sym c.in-Clock.is) c.insert_name.ensures

pub returns-in-Inputs : goal.returns-in-Inputs
returns-in-Inputs c =
    subst (λ (body : Body). OnOk c.insert_names.result (SameNames (key_names c.insert_names.new.ports.keys) (key_names c.args.ports.now.keys ++ ports_by (plain_body body)))) (sym c.in-Inputs.is)
    (subst (λ (names : List (List ℕ)). OnOk c.insert_names.result (SameNames (key_names c.insert_names.new.ports.keys) (key_names c.args.ports.now.keys ++ names))) c.deref.ensures.value c.insert_names.ensures)

pub returns-in-Outputs : goal.returns-in-Outputs
returns-in-Outputs c =
    subst (λ (body : Body). OnOk c.insert_names-in-Outputs.result (SameNames (key_names c.insert_names-in-Outputs.new.ports.keys) (key_names c.args.ports.now.keys ++ ports_by (plain_body body)))) (sym c.in-Outputs.is)
    (subst (λ (names : List (List ℕ)). OnOk c.insert_names-in-Outputs.result (SameNames (key_names c.insert_names-in-Outputs.new.ports.keys) (key_names c.args.ports.now.keys ++ names))) c.deref-in-Outputs.ensures.value c.insert_names-in-Outputs.ensures)
