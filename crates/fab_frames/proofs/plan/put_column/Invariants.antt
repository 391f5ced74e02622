use Rattle.std.proofs.Common.{◌≡◌, ◌++◌, map}
use Rattle.std.specs.List.{flat_map}
use Rattle.fab_model.specs.Tiles.{counted}
use Rattle.fab_frames.specs.Stream.{frame_parts}
use Rattle.fab_frames.specs.inner.Taking.{plain_part}
use Rattle.fab_frames.proofs.plan.put_column.Given as goal

-- the frames so far
abbrev pub invariant-loop-frame : goal.invariant-loop-frame
invariant-loop-frame l = map plain_part l.parts.items ≡ map plain_part l.fn.parts.items ++ flat_map (frame_parts l.fabric l.x) (counted l.frame (λ frame. frame))
