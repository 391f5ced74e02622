use Rattle.fab_place.proofs.Listed.{none_behind, counted_behind}
use Rattle.fab_place.proofs.start.put_cells.Goals as goal

pub loop-cell-init : goal.loop-cell-init
loop-cell-init c = none_behind c.args.sites.now.items (λ cell. cell)

pub loop-cell-preserved : goal.loop-cell-preserved
loop-cell-preserved c = counted_behind c.args.sites.now.items c.loop-cell.sites.items c.push.new.self.items (λ cell. cell) c.loop-cell.cell c.loop-cell.invariant c.in_ok-push.ensures.items
