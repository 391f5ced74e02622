use Rattle.std.proofs.Common.{◌≡◌, drop}
use Rattle.fab_timing.specs.inner.Search.{unsettled}
use Rattle.fab_timing.proofs.search.unsettled_in.Given as goal

abbrev pub invariant-loop-from : goal.invariant-loop-from
invariant-loop-from l = unsettled l.marks (drop l.from-index l.before) ≡ unsettled l.marks l.before
