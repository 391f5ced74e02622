use Rattle.std.proofs.Common.{◌≡◌, ◌++◌}
use Rattle.fab_model.specs.Tiles.{counted}
use Rattle.fab_frames.specs.Positions.{bit_place}
use Rattle.fab_frames.proofs.positions.push_place.Given as goal

-- the bits so far
abbrev pub invariant-loop-bit : goal.invariant-loop-bit
invariant-loop-bit l = l.places.items ≡ l.fn.places.items ++ counted l.bit (bit_place l.x l.y)
