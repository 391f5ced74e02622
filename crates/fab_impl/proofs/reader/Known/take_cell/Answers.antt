use Rattle.std.proofs.Common.{subst}
use Rattle.fab_base.specs.Reading.{Refuses}
use Rattle.std.proofs.lemmas.Result.{err_from_is_err_and}
use Rattle.fab_impl.specs.Lines.{Known, with_cell}
use Rattle.fab_impl.proofs.Edges.{cells_refused}
use Rattle.fab_impl.proofs.reader.Known.take_cell.Goals as goal

pub returns-in_err-take_cell : goal.returns-in_err-take_cell
returns-in_err-take_cell c = let p = err_from_is_err_and c.from_residual.result c.from_residual.ensures.1 in rw (p.1, p.2) (cells_refused c.args.self.now c.in_err-take_cell.field-0.0 (with_cell c.args.self.now.fabric c.args.self.now.cells c.args.cell.now c.args.site.now) (subst (λ (k : Known). Refuses c.in_err-take_cell.field-0.0 (with_cell k.fabric k.cells c.args.cell.now c.args.site.now)) c.self.view_is c.in_err-take_cell.ensures))
