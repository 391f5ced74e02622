use Rattle.std.proofs.Common.{◌-◌, ◌≤◌, length}
use Rattle.fab_changes.specs.Changes.{AreChangesOf, HasGiven}
use Rattle.fab_phases.specs.inner.Enables.{AreEnables}
use Rattle.fab_phases.proofs.Grouping.{GroupsSoFar}
use Rattle.fab_phases.proofs.watched.take_groups.Given as goal

abbrev pub decreases-groups : goal.decreases-groups
decreases-groups l = length l.groups - l.from

abbrev pub invariant-groups : goal.invariant-groups
invariant-groups l = record {
  within : l.from ≤ length l.groups;
  leaves : GroupsSoFar l.network l.groups l.demand l.from l.fn.given l.given;
  enables : AreEnables l.network l.demand l.enables l.watches;
  noted : HasGiven l.demand.terns l.given l.changes;
  changes : AreChangesOf l.network l.demand l.fn.changes → AreChangesOf l.network l.demand l.changes;
}
