use Rattle.std.proofs.Common.{◌≡◌, map, take}
use Rattle.fab_ways_laws.specs.Edges.{swapped}
use Rattle.fab_graph.proofs.outputs.swapped_pairs.Given as goal

abbrev pub invariant-loop-pair : goal.invariant-loop-pair
invariant-loop-pair l = l.new.items ≡ map swapped (take l.pair-index l.pairs)
