use Rattle.std.proofs.Common.{inr}
use Rattle.std.proofs.lemmas.Result.{err_from_is_err_and}
use Rattle.fab_instances.proofs.refusals.index_models.Goals as goal

pub returns-in_err-refuse_models-clause-refused : goal.returns-in_err-refuse_models-clause-refused
returns-in_err-refuse_models-clause-refused c =
    let told = err_from_is_err_and c.from_residual-in_err-refuse_models.result c.from_residual-in_err-refuse_models.ensures.1 in
    rw (told.1, told.2) (λ other. inr (c.in_ok-places.ensures.some, c.in_ok-places.ensures.differ, c.in_err-refuse_models.ensures.refused other))
