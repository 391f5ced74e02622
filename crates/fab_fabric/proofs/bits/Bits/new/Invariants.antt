use Rattle.std.proofs.Common.{◌≡◌, ◌<◌, ℕ, false, length}
use Rattle.fab_fabric.specs.Bits.{bits_of_columns, column_bits, place_bits, plain_bits, bits_at}
use Rattle.fab_fabric.proofs.bits.Bits.new.Given as goal

-- the columns so far
abbrev pub invariant-loop-x : goal.invariant-loop-x
invariant-loop-x l = record {
  columns : length l.columns.items ≡ l.x;
  rows : (x : ℕ) → x < l.x → length (column_bits (bits_of_columns l.columns.items) x) ≡ l.fabric.rows;
  tiles : (x y : ℕ) → x < l.x → y < l.fabric.rows → length (place_bits (bits_of_columns l.columns.items) x y) ≡ bits_at l.fabric x y;
  blank : (x y bit : ℕ) → plain_bits (bits_of_columns l.columns.items) x y bit ≡ false;
}
