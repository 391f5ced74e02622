use Rattle.fab_frames.specs.inner.Taking.{plain_part, placed_by}
use Rattle.fab_frames.proofs.Taken.{IsTaken}
use Rattle.fab_frames.proofs.read.take_bits.Given as goal

-- the bits so far
abbrev pub invariant-loop-bit : goal.invariant-loop-bit
invariant-loop-bit l = IsTaken (placed_by l.fabric (plain_part l.part)) l.word l.bit l.fn.bits l.bits
