use Rattle.fab_legal.specs.inner.Kept.{site_at}
use Rattle.fab_legal.proofs.Lists.{at_read}
use Rattle.fab_legal.proofs.SinkLists.{cells_step}
use Rattle.fab_legal.proofs.sinks.put_cells.Goals as goal

pub loop-number-preserved : goal.loop-number-preserved
loop-number-preserved c =
    cells_step c.args.fabric.now (site_at c.args.sites.now) c.args.reset c.args.cells.now c.loop-number.number c.index-cells-number.result c.args.sinks.now.items c.loop-number.sinks.items c.put_cell.new.sinks.items
    (at_read c.args.cells.now c.loop-number.number c.index-cells-number.result c.loop-number-test.true c.index-cells-number.is) c.loop-number.invariant c.in_ok-put_cell.ensures
