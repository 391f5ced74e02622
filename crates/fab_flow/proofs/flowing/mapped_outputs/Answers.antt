use Rattle.std.proofs.Common.{sym, subst}
use Rattle.std.proofs.lemmas.Result.{IfErr-weaker, IfOk-weaker, err_from_is_err_and}
use Rattle.fab_flow.specs.Mapping.{EndsUnmapped, memory}
use Rattle.fab_flow.proofs.Mapped.{not_packed}
use Rattle.fab_flow.proofs.flowing.mapped_outputs.Goals as goal

pub returns-in_err-packed-clause-ends : goal.returns-in_err-packed-clause-ends
returns-in_err-packed-clause-ends g c =
    let residual = err_from_is_err_and c.from_residual.result c.from_residual.ensures.1 in
    rw (residual.1, residual.2) (not_packed c.args.design.now c.args.rounds c.in_err-packed.field-0.0 c.in_err-packed.ensures.short)

pub returns-clause-ends : goal.returns-clause-ends
returns-clause-ends g c =
    IfErr-weaker c.all_outputs.result _ _ (λ fault is. subst (EndsUnmapped c.args.design.now c.args.rounds) (sym is) memory) c.all_outputs.ensures.memory

pub returns-clause-made : goal.returns-clause-made
returns-clause-made g c =
    let mapped = c.in_ok-implementation.ensures in
    IfOk-weaker c.all_outputs.result _ _
    (λ outputs made named prefixed. (c.in_ok-implementation.implementation, mapped.mapping, mapped.legal, made named prefixed)) c.all_outputs.ensures.made
