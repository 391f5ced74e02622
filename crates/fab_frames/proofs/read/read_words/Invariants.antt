use Rattle.fab_frames.proofs.Streams.{HaveTaken}
use Rattle.fab_frames.proofs.read.read_words.Given as goal

-- the words so far
abbrev pub invariant-loop-place : goal.invariant-loop-place
invariant-loop-place l = HaveTaken l.fabric l.words l.place l.bits
