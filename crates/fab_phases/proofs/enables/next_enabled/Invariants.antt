use Rattle.std.proofs.Common.{◌-◌, ◌≤◌, length}
use Rattle.fab_phases.specs.inner.Enables.{AreClosed, AreEnables}
use Rattle.fab_phases.proofs.enables.next_enabled.Given as goal

abbrev pub decreases-enables : goal.decreases-enables
decreases-enables l = length l.enables - l.begin

abbrev pub invariant-enables : goal.invariant-enables
invariant-enables l = record {
  low : l.from ≤ l.begin;
  passed : AreClosed l.network l.demand l.enables l.from l.begin;
  enables : AreEnables l.network l.demand l.enables l.watches;
}
