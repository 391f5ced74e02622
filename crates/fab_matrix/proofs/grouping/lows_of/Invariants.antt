use Rattle.std.proofs.Common.{◌≡◌, ◌<◌, ℕ, length, get_or, sum_by, take}
use Rattle.fab_matrix.specs.inner.Grouped.{width_at}
use Rattle.fab_matrix.proofs.grouping.lows_of.Given as goal

-- the running sum, and the sums before it
abbrev pub invariant-loop-output : goal.invariant-loop-output
invariant-loop-output l = record {
  low : l.low ≡ sum_by (width_at l.groups) (take l.output-index l.order);
  len : length l.lows.items ≡ l.output-index;
  lows : (place : ℕ) → place < l.output-index → get_or l.lows.items place 0 ≡ sum_by (width_at l.groups) (take place l.order);
}
