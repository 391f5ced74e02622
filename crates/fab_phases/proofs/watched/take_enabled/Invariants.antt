use Rattle.std.proofs.Common.{◌-◌, ◌≤◌, length}
use Rattle.fab_phases.specs.Loading.{IsInRuns}
use Rattle.fab_phases.specs.inner.Enables.{AreEnables}
use Rattle.fab_phases.specs.inner.Ticks.{WritesOnly}
use Rattle.fab_phases.proofs.Ticking.{RunsSoFar}
use Rattle.fab_phases.proofs.watched.take_enabled.Given as goal

abbrev pub decreases-runs : goal.decreases-runs
decreases-runs l = length l.enables - l.from

abbrev pub invariant-runs : goal.invariant-runs
invariant-runs l = record {
  low : length l.enables - length l.runs ≤ l.from;
  within : l.from ≤ length l.enables;
  leaves : RunsSoFar l.network l.runs l.demand (l.from - (length l.enables - length l.runs)) l.fn.given l.given;
  enables : AreEnables l.network l.demand l.enables l.watches;
  writes : WritesOnly (IsInRuns l.runs) l.fn.given l.given;
}
