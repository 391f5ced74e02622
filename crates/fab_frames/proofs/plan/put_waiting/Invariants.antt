use Rattle.std.proofs.Common.{◌≡◌, ◌++◌, map, replicate}
use Rattle.fab_frames.specs.Stream.{fixed, waiting_word}
use Rattle.fab_frames.specs.inner.Taking.{plain_part}
use Rattle.fab_frames.proofs.plan.put_waiting.Given as goal

-- the words so far
abbrev pub invariant-loop-place : goal.invariant-loop-place
invariant-loop-place l = map plain_part l.parts.items ≡ map plain_part l.fn.parts.items ++ map fixed (replicate l._place waiting_word)
