use Rattle.std.proofs.Common.{◌≡◌, ◌<◌, ℕ, length}
use Rattle.std.specs.List.{All, Contains, slice_get}
use Rattle.fab_annealing.specs.Measured.{numbers_of}
use Rattle.fab_annealing.specs.Boards.{site_count, is_second, column, row}
use Rattle.fab_annealing.specs.inner.Standing.{lot_number}
use Rattle.fab_annealing.proofs.lots.lots_of.Given as goal

abbrev pub invariant-loop-site : goal.invariant-loop-site
invariant-loop-site l = record {
  count : length l.lots.items ≡ 1024;
  sound : (number : ℕ) → All (λ site. (site < site_count l.board) × (is_second l.board site ≡ l.second)) (numbers_of (slice_get l.lots.items number));
  whole : (site : ℕ) → site < l.site → is_second l.board site ≡ l.second → Contains (numbers_of (slice_get l.lots.items (lot_number (column l.board site) (row l.board site)))) site;
}
