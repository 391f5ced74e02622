use Rattle.std.proofs.Common.{◌≡◌, ℕ, ◌<◌}
use Rattle.std.specs.List.{All}
use Rattle.fab_astar.specs.Walks.{has}
use Rattle.fab_astar.specs.Tables.{AreTables, count_of, price_of, prices, counts, is_held}
use Rattle.fab_pathfinder.specs.Plain.{goals_of}
use Rattle.fab_pathfinder.proofs.Sinks.{AreReached}
use Rattle.fab_pathfinder.proofs.grow.grow.Given as goal

abbrev pub invariant-loop-number : goal.invariant-loop-number
invariant-loop-number g l = record {
  tables : AreTables l.tables;
  count : count_of l.tables ≡ count_of l.fn.tables;
  price : prices l.tables ≡ prices l.fn.tables;
  users : counts l.tables ≡ counts l.fn.tables;
  held : (w : ℕ) → is_held l.tables w ≡ has l.nodes.items w;
  inside : All (λ w. w < (g.F.Field.graph l.field).nodes) l.nodes.items;
  reached : AreReached (g.F.Field.graph l.field) l.net.roots.items (price_of l.fn.tables) (goals_of l.net.sinks.items) l.nodes.items l.lengths.items l.number;
}
