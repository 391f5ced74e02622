use Rattle.fab_frames.proofs.Placed.{IsMapTo}
use Rattle.fab_frames.proofs.placing.FrameMap.of.Given as goal

-- the configuration bits so far
abbrev pub invariant-loop-number : goal.invariant-loop-number
invariant-loop-number l = IsMapTo l.tile.table l.placed.items l.number
