use Rattle.std.proofs.Common.{◌<◌, ◌≤◌, take}
use Rattle.fab_fasm.specs.inner.Leading.{BeginsWith}
use Rattle.fab_fasm.specs.Numbers.{number_of, radix}
use Rattle.fab_fasm.proofs.leading.leading_of.Given as goal

abbrev pub invariant-loop-byte : goal.invariant-loop-byte
invariant-loop-byte l = record {
  begins : BeginsWith (radix l.base) l.leading.digit l.leading.behind (number_of (radix l.base) (take l.byte-index l.text));
  first : l.leading.digit < radix l.base;
  few : l.leading.behind ≤ l.byte-index;
}
