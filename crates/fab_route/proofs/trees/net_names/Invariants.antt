use Rattle.std.proofs.Common.{◌≡◌, map, take}
use Rattle.fab_ways_laws.specs.Routing.{nets}
use Rattle.fab_ways_laws.specs.Trees.{by_line}
use Rattle.fab_route.proofs.trees.net_names.Given as goal

abbrev pub invariant-loop-place : goal.invariant-loop-place
invariant-loop-place l = l.names.items ≡ map (by_line l.packed l._placed) (take l.place (nets l.packed))
