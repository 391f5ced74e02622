use Rattle.std.proofs.Common.{◌≡◌, ◌++◌, map}
use Rattle.std.specs.List.{range_with_len}
use Rattle.fab_sample.specs.Lists.{bit_name}
use Rattle.fab_sample.proofs.lists.push_bits.Given as goal

abbrev pub invariant-loop-bit : goal.invariant-loop-bit
invariant-loop-bit l = l.names.items ≡ l.fn.names.items ++ map (bit_name l.fn.row) (range_with_len 0 l.bit)
