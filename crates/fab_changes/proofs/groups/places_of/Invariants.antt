use Rattle.std.proofs.Common.{◌≡◌, length}
use Rattle.fab_changes.specs.inner.Grouping.{ArePlacedBy}
use Rattle.fab_changes.proofs.groups.places_of.Given as goal

-- the places so far
abbrev pub invariant-loop-place : goal.invariant-loop-place
invariant-loop-place l = record {
  long : length l.by_point.items ≡ length l.places.leads.now;
  placed : ArePlacedBy l.places.own.now l.taken l.place-index l.by_point.items;
}
