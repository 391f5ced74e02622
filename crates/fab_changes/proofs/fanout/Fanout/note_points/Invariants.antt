use Rattle.std.proofs.Common.{◌≡◌, ℕ, ◌+◌, ◌<◌}
use Rattle.fab_changes.specs.Fanout.{IsWatched, ReadsMore}
use Rattle.fab_changes.proofs.fanout.Fanout.note_points.Given as goal

-- the points so far are watched
abbrev pub invariant-loop-next : goal.invariant-loop-next
invariant-loop-next l = record {
  watched : (k : ℕ) → k < l.next → IsWatched l.places.own.now l.places.leads.now l.self.readers.items l.reader (l.first + (l.place + k));
  more : ReadsMore l.fn.self.readers.items l.self.readers.items;
  stale : l.self.stale ≡ l.fn.self.stale;
}
