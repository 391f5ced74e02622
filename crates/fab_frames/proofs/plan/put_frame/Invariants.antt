use Rattle.std.proofs.Common.{◌≡◌, ◌++◌, ◌∷◌, map}
use Rattle.fab_model.specs.Tiles.{counted}
use Rattle.fab_frames.specs.Stream.{fixed, of_row, address_word}
use Rattle.fab_frames.specs.inner.Taking.{plain_part}
use Rattle.fab_frames.proofs.plan.put_frame.Given as goal

-- the address and the rows so far
abbrev pub invariant-loop-y : goal.invariant-loop-y
invariant-loop-y l = map plain_part l.parts.items ≡ map plain_part l.fn.parts.items ++ fixed (address_word l.x l.frame) ∷ counted l.y (λ y. of_row l.x y l.frame)
