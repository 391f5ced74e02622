use Rattle.std.proofs.Common.{◌≡◌, ℕ, ◌+◌, ◌-◌, ◌<◌, ◌≤◌, length, slice_index}
use Rattle.fab_astar.specs.Tables.{users_of}
use Rattle.fab_pathfinder.proofs.rounds.remember.Given as goal

abbrev pub invariant-loop-at : goal.invariant-loop-at
invariant-loop-at l = record {
  long : length l.past.items ≡ length l.fn.past.items;
  done : (w : ℕ) → w < l.at → slice_index l.past.items w ≡ slice_index l.fn.past.items w + (users_of l.tables w - 1);
  rest : (w : ℕ) → l.at ≤ w → slice_index l.past.items w ≡ slice_index l.fn.past.items w;
}
