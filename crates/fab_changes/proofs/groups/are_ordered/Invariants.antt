use Rattle.std.proofs.Common.{ℕ, ◌<◌}
use Rattle.fab_changes.specs.inner.Grouping.{IsOrderedAt}
use Rattle.fab_changes.proofs.groups.are_ordered.Given as goal

-- readers of the places so far begin behind them
abbrev pub invariant-loop-place : goal.invariant-loop-place
invariant-loop-place l = (k : ℕ) → k < l.place → IsOrderedAt l.network l.own l.fanout.readers.items l.groups k
