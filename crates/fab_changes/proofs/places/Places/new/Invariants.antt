use Rattle.std.proofs.Common.{◌≡◌, ℕ, ◌<◌, Some, length, slice_get, slice_index}
use Rattle.fab_changes.proofs.places.Places.new.Given as goal

-- the places so far
abbrev pub invariant-loop-place : goal.invariant-loop-place
invariant-loop-place l = record {
  long : length l.places.items ≡ length l.view.leads.now;
  found : (k : ℕ) → k < l.place → slice_get l.places.items (slice_index l.own k) ≡ Some k;
}
