use Rattle.std.proofs.Common.{take}
use Rattle.fab_timing.specs.inner.Tables.{sum_at, IsLatestEnd}
use Rattle.fab_timing.proofs.trace.latest_end.Given as goal

abbrev pub invariant-loop-node : goal.invariant-loop-node
invariant-loop-node l = IsLatestEnd (take l.node-index l.ends) (sum_at l.sums) l.latest
