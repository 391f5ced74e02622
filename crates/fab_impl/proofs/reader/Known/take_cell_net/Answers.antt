use Rattle.std.proofs.Common.{subst}
use Rattle.fab_base.specs.Reading.{Refuses}
use Rattle.std.proofs.lemmas.Result.{err_from_is_err_and}
use Rattle.fab_impl.specs.Lines.{Known, cell_net_at}
use Rattle.fab_impl.specs.Names.{cell_of}
use Rattle.fab_impl.proofs.Edges.{trees_refused}
use Rattle.fab_impl.proofs.reader.Known.take_cell_net.Goals as goal

pub returns-in_err-take_cell_net : goal.returns-in_err-take_cell_net
returns-in_err-take_cell_net c = let p = err_from_is_err_and c.from_residual.result c.from_residual.ensures.1 in rw (p.1, p.2) (trees_refused c.args.self.now c.in_err-take_cell_net.field-0.0 (cell_net_at c.args.self.now.trees (cell_of c.args.cell.now)) (subst (λ (k : Known). Refuses c.in_err-take_cell_net.field-0.0 (cell_net_at k.trees (cell_of c.args.cell.now))) c.self.view_is c.in_err-take_cell_net.ensures))
