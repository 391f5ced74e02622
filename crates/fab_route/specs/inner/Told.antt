-- What is told of a run over nodes: its trees as trees of wires.
use Rattle.std.specs.Prelude.{◌≡◌, ℕ, ◌<◌, ◌≤◌, List, map, All, length, IfSome, IfNone}
use Rattle.fab_netlist.specs.declared.net_id.NetId.{NetId}
use Rattle.fab_netlist.specs.Packed.{PlainPacked}
use Rattle.fab_implementation.specs.Plain.{PlainTree, PlainImplementation}
use Rattle.fab_pathfinder.specs.declared.tree.Tree.{Tree}
use Rattle.fab_pathfinder.specs.declared.tree.Round.{Round}
use Rattle.fab_pathfinder.specs.declared.rounds.Routed.{Routed}
use Rattle.fab_pathfinder.specs.Plain.{rounds_of}
use Rattle.fab_pathfinder.specs.Rounds.{Net, Paths, Run, users, no_trees, last_trees}
use Rattle.fab_astar.specs.Walks.{Graph}
use Rattle.fab_ways_laws.specs.Routing.{nets}
use Rattle.fab_ways_laws.specs.Trees.{trees_for, by_line}
use Rattle.fab_nodes_laws.specs.Nodes.{Numbering}
use Rattle.fab_nodes_laws.specs.Nets.{wire_trees}

-- the names that nets have in trees
abbrev pub net_names : PlainPacked → PlainImplementation → List NetId
net_names packed placement = map (by_line packed placement) (nets packed)

-- the trees of nets with these names and sinks
abbrev pub told_trees : Numbering → (names : List NetId) → (sinks : List (List ℕ)) → List Paths → List PlainTree
told_trees numbering names sinks trees = trees_for (λ name. name) names (wire_trees numbering sinks trees)

-- all nodes of trees are below a number
abbrev pub AreLow : (nodes : ℕ) → List Tree → Type 0
AreLow nodes trees = All (λ (tree : Tree). All (λ node. node < nodes) tree.nodes.items) trees

abbrev pub AreLowRounds : (nodes : ℕ) → List Round → Type 0
AreLowRounds nodes rounds = All (λ (round : Round). AreLow nodes round.trees.items) rounds

-- a run over nodes, of at most so many rounds, and whether its last round leaves a node in two trees
pub record IsNodeRun (graph : Graph) (nets : List Net) (allowed : ℕ) (routed : Routed) : Type 0 where
  pub run : Run graph nets (rounds_of routed.rounds.items) (last_trees (no_trees nets) (rounds_of routed.rounds.items))
  pub some_rounds : 1 ≤ length routed.rounds.items
  pub few_rounds : length routed.rounds.items ≤ allowed
  pub unshared : IfNone routed.shared ((node : ℕ) → users (last_trees (no_trees nets) (rounds_of routed.rounds.items)) node ≤ 1)
  pub shared : IfSome routed.shared (λ node. 2 ≤ users (last_trees (no_trees nets) (rounds_of routed.rounds.items)) node)
  pub all_rounds : IfSome routed.shared (λ node. length routed.rounds.items ≡ allowed)
