use Rattle.std.proofs.Common.{◌≡◌}
use Rattle.fab_bits.specs.Bits.{number, first_bits}
use Rattle.fab_fabric.specs.Bits.{plain_bits}
use Rattle.fab_frames.specs.Positions.{bit_in}
use Rattle.fab_frames.specs.inner.Taking.{plain_part, placed_by}
use Rattle.fab_frames.proofs.Words.{bit_there}
use Rattle.fab_frames.proofs.write.placed_word.Given as goal

-- the bits so far
abbrev pub invariant-loop-bit : goal.invariant-loop-bit
invariant-loop-bit l = l.word ≡ number (first_bits l.bit (bit_there (placed_by l.fabric (plain_part l.part)) (bit_in (plain_bits l.bits))))
