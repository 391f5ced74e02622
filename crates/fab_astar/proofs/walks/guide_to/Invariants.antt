use Rattle.std.proofs.Common.{ℕ, ◌<◌, ◌≤◌, get_or}
use Rattle.fab_astar.proofs.walks.guide_to.Given as goal

abbrev pub invariant-loop-goal : goal.invariant-loop-goal
invariant-loop-goal g l = (k : ℕ) → k < l.goal-index → g.F.Field.rest l.field l.aim (get_or l.goals k 0) ≤ 1
