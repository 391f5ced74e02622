use Rattle.std.proofs.Common.{◌≡◌, ◌<◌, ℕ, [], false, length, get_or}
use Rattle.fab_fabric.specs.Bits.{bits_of_column, bits_at}
use Rattle.fab_fabric.proofs.bits.blank_column.Given as goal

-- the tiles so far
abbrev pub invariant-loop-y : goal.invariant-loop-y
invariant-loop-y l = record {
  rows : length l.column.items ≡ l.y;
  tiles : (y : ℕ) → y < l.y → length (get_or (bits_of_column l.column.items) y []) ≡ bits_at l.fabric l.x y;
  blank : (y bit : ℕ) → get_or (get_or (bits_of_column l.column.items) y []) bit false ≡ false;
}
