use Rattle.std.proofs.Common.{◌≡◌, ℕ, ◌<◌, false, get_or}
use Rattle.fab_astar.specs.Tables.{is_held}
use Rattle.fab_astar.proofs.walks.goal_in_tree.Given as goal

abbrev pub invariant-loop-goal : goal.invariant-loop-goal
invariant-loop-goal l = (k : ℕ) → k < l.goal-index → is_held l.tables (get_or l.goals k 0) ≡ false
