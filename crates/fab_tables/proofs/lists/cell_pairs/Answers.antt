use Rattle.std.proofs.Common.{◌≡◌, ℕ, List, Ok, subst}
use Rattle.std.proofs.lemmas.Result.{err_from_is_err_and}
use Rattle.fab_base.specs.Reading.{Answers}
use Rattle.fab_lines.specs.Order.{judged}
use Rattle.fab_tables.specs.Bodies.{plain_body}
use Rattle.fab_tables.specs.Lists.{cells_problem, both_names, named_body}
use Rattle.fab_tables.proofs.Asking.{cells_refused, cells_named}
use Rattle.fab_tables.proofs.lists.cell_pairs.Goals as goal

pub returns-in_err-outputs : goal.returns-in_err-outputs
returns-in_err-outputs g c =
    let residual = err_from_is_err_and c.from_residual.result c.from_residual.ensures.1 in
    rw (residual.1, residual.2) (cells_refused (g.K.KnownNames.judge_pairs c.args.known.now) c.args.output.now c.args.input.now c.in_err-outputs.field-0.0 c.in_err-outputs.ensures)

pub returns : goal.returns
returns g c =
    let judge = g.K.KnownNames.judge_pairs c.args.known.now in
    let so : judged (cells_problem c.args.output.now c.args.input.now) (both_names c.args.output.now c.args.input.now) ≡ Ok (c.in_ok-outputs.outputs.items, c.in_ok-outputs.inputs.items) = c.in_ok-outputs.ensures in
    let named : Answers plain_body c.named_pairs.result (named_body judge c.in_ok-outputs.outputs.items c.in_ok-outputs.inputs.items) =
    subst (λ (inputs : List (List ℕ)). Answers plain_body c.named_pairs.result (named_body judge c.in_ok-outputs.outputs.items inputs)) c.deref-2.ensures.value
    (subst (λ (outputs : List (List ℕ)). Answers plain_body c.named_pairs.result (named_body judge outputs c.deref-2.result.now)) c.deref.ensures.value c.named_pairs.ensures) in
    cells_named plain_body c.named_pairs.result judge c.args.output.now c.args.input.now c.in_ok-outputs.outputs.items c.in_ok-outputs.inputs.items so named
