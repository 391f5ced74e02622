use Rattle.std.proofs.Common.{◌≡◌, ◌++◌, map, take}
use Rattle.fab_sample.specs.Netlists.{digit}
use Rattle.fab_sample.proofs.stimulus.put_digits.Given as goal

abbrev pub invariant-loop-bit : goal.invariant-loop-bit
invariant-loop-bit l = l.out.items ≡ l.fn.out.items ++ map digit (take l.bit-index l.line)
