use Rattle.std.proofs.Common.{◌-◌, length}
use Rattle.fab_changes.specs.Fanout.{HasTouched}
use Rattle.fab_changes.specs.inner.Looking.{AreRightFrom, AreSameGroups, HasWritten, IsSameWaiting}
use Rattle.fab_changes.proofs.changes.Changes.settle_groups.Given as goal

-- the groups so far are right
abbrev pub invariant-loop-number : goal.invariant-loop-number
invariant-loop-number l = record {
  same : AreSameGroups l.fn.self l.self;
  waits : IsSameWaiting l.fn.self l.self;
  right : AreRightFrom l.network l.demand l.self l.from;
  written : HasWritten l.network l.fn.demand l.demand;
  watches : HasTouched l.fn.demand.own l.fn.demand.terns l.demand.terns l.fn.watches l.watches;
}

abbrev pub decreases-loop-number : goal.decreases-loop-number
decreases-loop-number l = length l.fn.self.groups.items - l.from
