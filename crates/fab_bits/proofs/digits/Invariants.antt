use Rattle.std.proofs.Common.{◌≡◌, ◌-◌, ◌++◌}
use Rattle.fab_bits.specs.Bits.{digits}
use Rattle.fab_bits.proofs.digits.Given as goal

-- the bits so far and those of the rest are all
abbrev pub invariant-loop-place : goal.invariant-loop-place
invariant-loop-place l = l.bits.items ++ digits (l.width - l._place) l.rest ≡ digits l.width l.number
