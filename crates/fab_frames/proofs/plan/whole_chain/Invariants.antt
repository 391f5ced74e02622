use Rattle.std.proofs.Common.{◌≡◌, ◌++◌, map, reverse}
use Rattle.fab_model.specs.Tiles.{counted}
use Rattle.fab_frames.specs.Stream.{of_chain}
use Rattle.fab_frames.specs.inner.Taking.{plain_part}
use Rattle.fab_frames.proofs.plan.whole_chain.Given as goal

-- the words so far, and then those that are left
abbrev pub invariant-loop-word : goal.invariant-loop-word
invariant-loop-word l = map plain_part l.parts.items ++ reverse (counted l.word of_chain) ≡ reverse (counted l.words of_chain)
