use Rattle.std.proofs.Common.{◌≡◌, ℕ, [], length, get_or}
use Rattle.fab_route.specs.inner.Wanted.{wire_groups}
use Rattle.fab_route.proofs.sinks.no_groups.Given as goal

abbrev pub invariant-loop-place : goal.invariant-loop-place
invariant-loop-place l = record {
  count : length l.groups.items ≡ l._place;
  empty : (place : ℕ) → get_or (wire_groups l.groups.items) place [] ≡ [];
}
