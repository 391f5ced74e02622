use Rattle.std.proofs.Common.{◌≡◌, ◌++◌, drop, length}
use Rattle.fab_tables.specs.Config.{mask_digits, ones, used_bits}
use Rattle.fab_tables.proofs.mask.used_bits.Given as goal

abbrev pub invariant-loop-digit : goal.invariant-loop-digit
invariant-loop-digit l = record {
  left : l.behind ≡ length (mask_digits (drop l.digit-index l.mask));
  same : l.bits.items ++ ones (mask_digits (drop l.digit-index l.mask)) ≡ used_bits l.mask;
}
