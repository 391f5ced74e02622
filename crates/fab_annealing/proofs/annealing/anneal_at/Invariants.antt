use Rattle.fab_annealing.specs.Boards.{Keeps}
use Rattle.fab_annealing.specs.inner.Standing.{IsKept}
use Rattle.fab_annealing.proofs.annealing.anneal_at.Given as goal

abbrev pub invariant-loop-try : goal.invariant-loop-try
invariant-loop-try l = record {
  kept : IsKept l.board l.placement;
  keeps : Keeps l.board l.fn.placement.sites.items l.placement.sites.items;
}
