use Rattle.std.proofs.Common.{ap}
use Rattle.fab_blif_models.specs.declared.model.Statement.{Statement}
use Rattle.fab_blif_models.specs.inner.Following.{with_cube}
use Rattle.fab_blif_models.specs.Plain.{PlainBody, PlainStatement, plain_statement}
use Rattle.fab_blif_models.proofs.Models.{put_back}
use Rattle.fab_blif_models.proofs.bodies.row_last.Goals as goal

pub returns : goal.returns
returns c =
    let next : Statement = record { line = c.in-Some.last.line; body = c.in_ok-body.body } in
    put_back plain_statement (with_cube c.args.on c.args.row) c.args.statements.now.items c.pop.new.self.items c.push.new.self.items c.in-Some.last next
    c.in-Some.ensures.items c.in_ok-push.ensures.items (λ j. record { line = c.in-Some.last.line; body = c.in_ok-body.ensures j })
