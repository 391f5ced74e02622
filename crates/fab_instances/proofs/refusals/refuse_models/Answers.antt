use Rattle.std.proofs.Common.{inl, inr}
use Rattle.std.proofs.lemmas.Result.{err_from_is_err_and}
use Rattle.fab_instances.proofs.refusals.refuse_models.Goals as goal

pub returns-in_err-refuse_formals-clause-refused : goal.returns-in_err-refuse_formals-clause-refused
returns-in_err-refuse_formals-clause-refused c =
    let told = err_from_is_err_and c.from_residual-in_err-refuse_formals.result c.from_residual-in_err-refuse_formals.ensures.1 in
    let uses = c.in_ok-refuse_uses.ensures in
    rw (told.1, told.2) (λ other. inr (inr (inl (uses.known, uses.finite, c.in_err-refuse_formals.ensures.refused other))))
