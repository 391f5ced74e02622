use Rattle.fab_frames.proofs.Mapped.{HaveMapsTo}
use Rattle.fab_frames.proofs.placing.frame_maps.Given as goal

-- the maps of the types so far
abbrev pub invariant-loop-tile : goal.invariant-loop-tile
invariant-loop-tile l = HaveMapsTo l.tile-items l.maps.items l.tile-index
