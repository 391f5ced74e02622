use Rattle.std.proofs.Common.{◌≡◌, ℕ, [], length}
use Rattle.std.specs.List.{slice_get}
use Rattle.fab_annealing.specs.Measured.{numbers_of}
use Rattle.fab_annealing.proofs.lots.no_lots.Given as goal

abbrev pub invariant-loop-tile : goal.invariant-loop-tile
invariant-loop-tile l = record {
  len : length l.lots.items ≡ l._tile;
  empty : (number : ℕ) → numbers_of (slice_get l.lots.items number) ≡ [];
}
