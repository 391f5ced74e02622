use Rattle.std.proofs.Common.{◌≡◌, ℕ, [], length}
use Rattle.std.specs.List.{slice_get}
use Rattle.fab_annealing.specs.Measured.{numbers_of}
use Rattle.fab_place.proofs.nets.no_lists.Given as goal

abbrev pub invariant-loop-list : goal.invariant-loop-list
invariant-loop-list l = record {
  count : length l.lists.items ≡ l._list;
  empty : (number : ℕ) → numbers_of (slice_get l.lists.items number) ≡ [];
}
