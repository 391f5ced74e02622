use Rattle.std.proofs.lemmas.Result.{err_from_is_err_and}
use Rattle.fab_flow.proofs.Assembled.{short_refused}
use Rattle.fab_flow.proofs.assembling.packed_assembly.Goals as goal

pub returns-in_err-packed-clause-refused : goal.returns-in_err-packed-clause-refused
returns-in_err-packed-clause-refused c =
    let residual = err_from_is_err_and c.from_residual.result c.from_residual.ensures.1 in
    rw (residual.1, residual.2) (short_refused c.args.design.now.fabric c.args.design.now.netlist c.args.design.now.fixed c.args.implementation c.in_err-packed.field-0.0
    c.in_err-packed.ensures.short)
