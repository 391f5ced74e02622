use Rattle.std.proofs.Common.{◌≡◌, map, take}
use Rattle.fab_fabric.specs.Bits.{plain_bits}
use Rattle.fab_frames.specs.Stream.{word_of}
use Rattle.fab_frames.specs.inner.Taking.{plain_part}
use Rattle.fab_frames.proofs.write.frames.Given as goal

-- the words so far
abbrev pub invariant-loop-part : goal.invariant-loop-part
invariant-loop-part l = l.words.items ≡ map (λ part. word_of l.fabric (plain_bits l.bits) (plain_part part)) (take l.part-index l.part-items)
