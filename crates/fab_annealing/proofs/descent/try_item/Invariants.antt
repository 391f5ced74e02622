use Rattle.std.proofs.Common.{◌≡◌, ◌<◌, ℕ}
use Rattle.fab_annealing.specs.Boards.{cost, site_count, column}
use Rattle.fab_annealing.specs.inner.Standing.{IsKept, Falls, IsTried}
use Rattle.fab_annealing.proofs.descent.try_item.Given as goal

abbrev pub invariant-loop-at : goal.invariant-loop-at
invariant-loop-at l = record {
  kept : IsKept l.board l.placement;
  falls : Falls l.board l.fn.placement.sites.items l.placement.sites.items;
  tried : cost l.board l.placement.sites.items ≡ cost l.board l.fn.placement.sites.items
      → (site : ℕ) → site < site_count l.board → column l.board site < l.at → IsTried l.board l.placement.sites.items l.item site;
}
