use Rattle.std.proofs.Common.{◌≡◌, map, take}
use Rattle.fab_route.specs.Plain.{node_of}
use Rattle.fab_route.proofs.goals.goals_of.Given as goal

abbrev pub invariant-loop-index : goal.invariant-loop-index
invariant-loop-index l = l.goals.items ≡ map (node_of l.nodes) (take l.index l.origins)
