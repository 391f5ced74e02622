use Rattle.std.proofs.Common.{map, take}
use Rattle.fab_pathfinder.specs.Plain.{goals_of}
use Rattle.fab_nodes_laws.specs.Nets.{AreGoals}
use Rattle.fab_route.specs.Plain.{graph_of, numbering_of}
use Rattle.fab_route.proofs.Wanting.{number}
use Rattle.fab_route.proofs.nets.sinks_to.Given as goal

abbrev pub invariant-loop-wire : goal.invariant-loop-wire
invariant-loop-wire l = AreGoals l.graph (graph_of l.nodes) (numbering_of l.nodes) (map number (take l.wire-index l.wires)) (goals_of l.sinks.items)
