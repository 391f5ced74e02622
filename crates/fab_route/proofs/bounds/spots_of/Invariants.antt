use Rattle.std.proofs.Common.{◌≡◌, map, take}
use Rattle.fab_route.specs.inner.Guided.{spot_of}
use Rattle.fab_route.proofs.bounds.spots_of.Given as goal

abbrev pub invariant-loop-place : goal.invariant-loop-place
invariant-loop-place l = l.spots.items ≡ map spot_of (take l.place-index l.places)
