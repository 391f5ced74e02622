use Rattle.std.proofs.Common.{◌≡◌, take}
use Rattle.fab_fasm.specs.Numbers.{number_of, radix, small}
use Rattle.fab_fasm.proofs.numbers.number_of.Given as goal

abbrev pub invariant-loop-byte : goal.invariant-loop-byte
invariant-loop-byte l = l.number ≡ small (number_of (radix l.base) (take l.byte-index l.text))
