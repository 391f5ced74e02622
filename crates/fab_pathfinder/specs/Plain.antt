-- Nets, trees and rounds of the code, as the definitions see them.
use Rattle.std.specs.Prelude.{◌<◌, ℕ, List, [], ◌∷◌, map, take, drop}
use Rattle.std.specs.List.{All}
use Rattle.fab_pathfinder.specs.declared.net.Sink.{Sink}
use Rattle.fab_pathfinder.specs.declared.net.Net as demand
use Rattle.fab_pathfinder.specs.declared.tree.Tree.{Tree}
use Rattle.fab_pathfinder.specs.declared.tree.Round.{Round}
use Rattle.fab_pathfinder.specs.Rounds.{Net, Paths}

abbrev pub goals_of : List Sink → List (List ℕ)
goals_of sinks = map (λ (sink : Sink). sink.goals.items) sinks

abbrev pub net_of : demand.Net → Net
net_of net = record { roots = net.roots.items; goals = goals_of net.sinks.items }

abbrev pub nets_of : List demand.Net → List Net
nets_of nets = map net_of nets

-- as many nets as a design may have: those that are always 0 and always 1, and those of 16,384 inputs and as many cells
abbrev pub most_routed_nets : ℕ
most_routed_nets = 32770

-- a list cut into parts of these lengths
abbrev pub parts : (nodes lengths : List ℕ) → List (List ℕ)
parts nodes [] = []
parts nodes (length ∷ lengths) = take length nodes ∷ parts (drop length nodes) lengths

abbrev pub paths_of : Tree → Paths
paths_of tree = parts tree.nodes.items tree.lengths.items

abbrev pub trees_of : List Tree → List Paths
trees_of trees = map paths_of trees

abbrev pub rounds_of : List Round → List (List Paths)
rounds_of rounds = map (λ (round : Round). trees_of round.trees.items) rounds

-- the roots and goals of a net are nodes of a graph
pub record IsInside (nodes : ℕ) (net : demand.Net) : Type 0 where
  pub roots : All (λ w. w < nodes) net.roots.items
  pub goals : All (λ (sink : Sink). All (λ w. w < nodes) sink.goals.items) net.sinks.items
