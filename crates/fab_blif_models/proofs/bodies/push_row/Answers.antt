use Rattle.std.proofs.Common.{refl}
use Rattle.fab_blif_models.specs.declared.model.Model.{Model}
use Rattle.fab_blif_models.specs.inner.Following.{with_statements, with_cube}
use Rattle.fab_lines.specs.Items.{with_last}
use Rattle.fab_blif_models.specs.Plain.{plain_model}
use Rattle.fab_blif_models.proofs.Models.{put_back, model_changed}
use Rattle.fab_blif_models.proofs.bodies.push_row.Goals as goal

pub returns : goal.returns
returns c =
    let change = with_last (with_cube c.args.on c.args.row) in
    let next : Model = record { line = c.in-Some.last.line; name = c.in-Some.last.name; statements = c.row_last.new.statements } in
    put_back plain_model (with_statements change) c.args.models.now.items c.pop.new.self.items c.push.new.self.items c.in-Some.last next c.in-Some.ensures.items c.in_ok-push.ensures.items
    (model_changed change c.in-Some.last next refl refl c.in_ok-row_last.ensures)
