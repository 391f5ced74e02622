use Rattle.std.proofs.Common.{◌≡◌, ℕ, ◌<◌, Some, slice_get, slice_index}
use Rattle.fab_changes.specs.declared.groups.Group.{Group}
use Rattle.fab_changes.proofs.groups.begin_behind.Given as goal

-- the readers so far begin behind the place
abbrev pub invariant-loop-reader : goal.invariant-loop-reader
invariant-loop-reader l = (k : ℕ) (group : Group) → k < l.reader-index → slice_get l.groups (slice_index l.readers k) ≡ Some group → l.place < group.begin
