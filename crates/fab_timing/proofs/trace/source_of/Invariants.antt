use Rattle.std.proofs.Common.{◌≡◌, drop}
use Rattle.fab_timing.specs.inner.Tables.{sum_at}
use Rattle.fab_timing.specs.inner.Trails.{source_of}
use Rattle.fab_timing.proofs.trace.source_of.Given as goal

abbrev pub invariant-loop-from : goal.invariant-loop-from
invariant-loop-from l = source_of (sum_at l.sums) l.sum (drop l.from-index l.before) ≡ source_of (sum_at l.sums) l.sum l.before
