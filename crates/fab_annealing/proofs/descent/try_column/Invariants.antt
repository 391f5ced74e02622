use Rattle.std.proofs.Common.{◌≡◌, ◌<◌, ◌≤◌, ℕ}
use Rattle.fab_annealing.specs.Boards.{cost, site_count, column, row, is_second}
use Rattle.fab_annealing.specs.inner.Standing.{IsKept, Falls, IsTried}
use Rattle.fab_annealing.proofs.descent.try_column.Given as goal

abbrev pub invariant-loop-row : goal.invariant-loop-row
invariant-loop-row l = record {
  kept : IsKept l.board l.placement;
  falls : Falls l.board l.fn.placement.sites.items l.placement.sites.items;
  tried : cost l.board l.placement.sites.items ≡ cost l.board l.fn.placement.sites.items
      → (site : ℕ) → site < site_count l.board → is_second l.board site ≡ l.second → column l.board site ≡ l.at → l.low ≤ row l.board site → row l.board site < l.row
      → IsTried l.board l.placement.sites.items l.item site;
}
