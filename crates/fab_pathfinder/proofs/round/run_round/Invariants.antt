use Rattle.std.proofs.Common.{◌<◌}
use Rattle.std.specs.List.{All}
use Rattle.fab_pathfinder.specs.declared.tree.Tree.{Tree}
use Rattle.fab_pathfinder.specs.Plain.{nets_of, trees_of}
use Rattle.fab_pathfinder.proofs.Passes.{IsPassing}
use Rattle.fab_pathfinder.proofs.round.run_round.Given as goal

abbrev pub invariant-loop-net : goal.invariant-loop-net
invariant-loop-net g l = record {
  inside : All (λ (tree : Tree). All (λ w. w < (g.F.Field.graph l.field).nodes) tree.nodes.items) l.new.items;
  passing : IsPassing (g.F.Field.graph l.field) (nets_of l.nets) l.past l.round (trees_of l.old) (trees_of l.new.items) l.tables l.net;
}
