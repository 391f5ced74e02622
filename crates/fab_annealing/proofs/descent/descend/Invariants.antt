use Rattle.fab_annealing.specs.Measured.{item_count}
use Rattle.fab_annealing.specs.Boards.{cost}
use Rattle.fab_annealing.specs.inner.Standing.{IsKept, Falls, AreTried}
use Rattle.fab_annealing.proofs.descent.descend.Given as goal

abbrev pub invariant-sweeps : goal.invariant-sweeps
invariant-sweeps l = record {
  kept : IsKept l.board l.placement;
  falls : Falls l.board l.fn.placement.sites.items l.placement.sites.items;
  tried : AreTried l.board l.placement.sites.items l.tried (item_count l.board.nets);
}

abbrev pub decreases-sweeps : goal.decreases-sweeps
decreases-sweeps l = cost l.board l.placement.sites.items
