use Rattle.std.proofs.Common.{◌≡◌, drop}
use Rattle.fab_timing.specs.inner.Arrivals.{later_of, by_steps}
use Rattle.fab_timing.specs.inner.Tables.{sum_at}
use Rattle.fab_timing.proofs.search.latest_from.Given as goal

abbrev pub invariant-loop-from : goal.invariant-loop-from
invariant-loop-from l = later_of l.latest (by_steps (sum_at l.sums) (drop l.from-index l.before)) ≡ later_of l.fn.first (by_steps (sum_at l.sums) l.before)
