use Rattle.std.proofs.Common.{◌≡◌, map, take}
use Rattle.fab_pathfinder.specs.Plain.{rounds_of}
use Rattle.fab_route.specs.Answers.{plain_rounds}
use Rattle.fab_route.specs.Plain.{numbering_of}
use Rattle.fab_route.specs.inner.Told.{told_trees}
use Rattle.fab_route.specs.inner.Wanted.{wire_groups}
use Rattle.fab_route.proofs.trees.round_trees.Given as goal

abbrev pub invariant-loop-round : goal.invariant-loop-round
invariant-loop-round l = plain_rounds l.told.items ≡ map (told_trees (numbering_of l.nodes) l.names (wire_groups l.sinks.items)) (rounds_of (take l.round-index l.rounds))
