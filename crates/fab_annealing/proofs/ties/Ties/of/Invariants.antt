use Rattle.std.proofs.Common.{◌≡◌, ◌<◌, ℕ, length}
use Rattle.std.specs.List.{slice_get}
use Rattle.fab_annealing.specs.Measured.{numbers_of}
use Rattle.fab_annealing.specs.inner.Tied.{AreTies}
use Rattle.fab_annealing.proofs.ties.Ties.of.Given as goal

abbrev pub invariant-loop-item : goal.invariant-loop-item
invariant-loop-item l = record {
  count : length l.ties.items ≡ l.item;
  each : (item : ℕ) → item < l.item → AreTies l.nets item (numbers_of (slice_get l.ties.items item));
}
