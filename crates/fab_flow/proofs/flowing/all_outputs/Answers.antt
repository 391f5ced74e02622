use Rattle.std.proofs.Common.{subst}
use Rattle.std.proofs.lemmas.Result.{err_from_is_err_and}
use Rattle.fab_netlist.specs.WellMade.{IsWellMade}
use Rattle.fab_designs.specs.Designs.{PlainDesign}
use Rattle.fab_flow.proofs.Flowed.{legal_is_assembled}
use Rattle.fab_flow.proofs.flowing.all_outputs.Goals as goal

pub returns-in_err-assembled-clause-memory : goal.returns-in_err-assembled-clause-memory
returns-in_err-assembled-clause-memory c =
    let residual = err_from_is_err_and c.from_residual-in_err-assembled.result c.from_residual-in_err-assembled.ensures.1 in
    rw (residual.1, residual.2)
    (legal_is_assembled c.args.design.now.fabric c.args.design.now.netlist c.args.design.now.fixed c.args.implementation c.in_err-assembled.field-0.0
    (subst (λ (d : PlainDesign). IsWellMade d.netlist) c.design.view_is c.is_well_made.ensures)
    c.requires.fits c.requires.legal c.in_err-assembled.ensures.refused)
