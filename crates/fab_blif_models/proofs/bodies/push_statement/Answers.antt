use Rattle.std.proofs.Common.{◌++◌, ◌∷◌, [], List, refl}
use Rattle.fab_blif_models.specs.declared.model.Model.{Model}
use Rattle.fab_blif_models.specs.inner.Following.{with_statements}
use Rattle.fab_blif_models.specs.Plain.{PlainStatement, plain_model, plain_body}
use Rattle.fab_blif_models.proofs.Models.{put_back, model_changed, statement_pushed}
use Rattle.fab_blif_models.proofs.bodies.push_statement.Goals as goal

pub returns : goal.returns
returns c =
    let change : List PlainStatement → List PlainStatement = λ old. old ++ record { line = c.args.number; body = plain_body c.args.body } ∷ [] in
    let next : Model = record { line = c.in-Some.last.line; name = c.in-Some.last.name; statements = c.push.new.self } in
    put_back plain_model (with_statements change) c.args.models.now.items c.pop.new.self.items c.push-2.new.self.items c.in-Some.last next c.in-Some.ensures.items c.in_ok-push-2.ensures.items
    (model_changed change c.in-Some.last next refl refl (statement_pushed c.in-Some.last.statements.items c.push.new.self.items _ c.in_ok-push.ensures.items))
