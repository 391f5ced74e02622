use Rattle.std.proofs.Common.{◌≡◌, ℕ, ◌+◌, ◌<◌, ◌≤◌, length, IfSome, IfNone}
use Rattle.fab_astar.specs.Tables.{AreTables, count_of, users_of}
use Rattle.fab_pathfinder.specs.Plain.{nets_of, rounds_of}
use Rattle.fab_pathfinder.proofs.Running.{IsRunning}
use Rattle.fab_pathfinder.proofs.rounds.negotiate.Given as goal

abbrev pub invariant-loop-number : goal.invariant-loop-number
invariant-loop-number g l = record {
  tables : AreTables l.tables;
  count : count_of l.tables ≡ (g.F.Field.graph l.field).nodes;
  long : length l.past.items ≡ count_of l.tables;
  running : IsRunning (g.F.Field.graph l.field) (nets_of l.nets) (rounds_of l.rounds.items) l.tables l.past.items l.number;
  found : IfSome l.shared (λ w. 2 ≤ users_of l.tables w);
  least : IfSome l.shared (λ w. (v : ℕ) → v < w → users_of l.tables v ≤ 1);
  apart : IfNone l.shared ((w : ℕ) → users_of l.tables w ≤ 1);
  few : l.hope.left ≤ 8;
  slow : 8 ≤ l.hope.left + l.number;
}
