use Rattle.std.proofs.Common.{◌≡◌}
use Rattle.fab_changes.specs.inner.Grouping.{AreWatched}
use Rattle.fab_changes.proofs.groups.note_groups.Given as goal

-- the groups so far watch what they read
abbrev pub invariant-loop-number : goal.invariant-loop-number
invariant-loop-number l = record {
  watched : AreWatched l.network l.places.own.now l.places.leads.now l.fanout.readers.items l.number l.groups;
  stale : l.fanout.stale ≡ l.fn.fanout.stale;
}
