use Rattle.std.proofs.Common.{◌≡◌, ◌<◌, ℕ, get_or}
use Rattle.fab_annealing.specs.Boards.{cost}
use Rattle.fab_annealing.specs.inner.Standing.{IsKept, Falls, IsTried}
use Rattle.fab_annealing.proofs.descent.try_sites.Given as goal

abbrev pub invariant-loop-site : goal.invariant-loop-site
invariant-loop-site l = record {
  kept : IsKept l.board l.placement;
  falls : Falls l.board l.fn.placement.sites.items l.placement.sites.items;
  tried : cost l.board l.placement.sites.items ≡ cost l.board l.fn.placement.sites.items → (k : ℕ) → k < l.site-index → IsTried l.board l.placement.sites.items l.item (get_or l.sites k 0);
}
