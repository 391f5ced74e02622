use Rattle.fab_annealing.specs.inner.Standing.{IsKept, Falls, AreTried, IsNext}
use Rattle.fab_annealing.proofs.descent.sweep.Given as goal

abbrev pub invariant-loop-item : goal.invariant-loop-item
invariant-loop-item l = record {
  kept : IsKept l.board l.placement;
  falls : Falls l.board l.fn.placement.sites.items l.placement.sites.items;
  tried : AreTried l.board l.placement.sites.items l.since l.item;
  next : IsNext l.board l.fn.placement.sites.items l.placement.sites.items 0 l.since;
}
