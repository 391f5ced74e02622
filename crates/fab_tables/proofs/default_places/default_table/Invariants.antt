use Rattle.std.proofs.Common.{◌≡◌, ℕ, ◌<◌, length, get_or}
use Rattle.fab_tables.specs.Frames.{default_place}
use Rattle.fab_tables.proofs.default_places.default_table.Given as goal

abbrev pub invariant-loop-bit : goal.invariant-loop-bit
invariant-loop-bit l = record {
  many : length l.places.items ≡ l.bit;
  each : (k : ℕ) → k < l.bit → get_or l.places.items k (0, 0) ≡ default_place l.bits k;
}
