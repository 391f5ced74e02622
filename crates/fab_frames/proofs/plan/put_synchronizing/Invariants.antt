use Rattle.std.proofs.Common.{◌≡◌, ◌++◌, map, take}
use Rattle.fab_frames.specs.Stream.{fixed, synchronizing_words}
use Rattle.fab_frames.specs.inner.Taking.{plain_part}
use Rattle.fab_frames.proofs.plan.put_synchronizing.Given as goal

-- the words so far
abbrev pub invariant-loop-word : goal.invariant-loop-word
invariant-loop-word l = record {
  words : l.word-items ≡ synchronizing_words;
  so_far : map plain_part l.parts.items ≡ map plain_part l.fn.parts.items ++ map fixed (take l.word-index synchronizing_words);
}
