use Rattle.std.proofs.Common.{◌+◌, ◌*◌, ◌^◌, ◌++◌}
use Rattle.fab_astar.specs.Queue.{IsQueue, size}
use Rattle.fab_astar.specs.Scene.{scene_of}
use Rattle.fab_astar.specs.State.{unsettled}
use Rattle.fab_astar.specs.Tables.{state_of, prices, IsKept}
use Rattle.fab_astar.proofs.Turning.{IsTurning}
use Rattle.fab_astar.proofs.explore.explore.Given as goal

abbrev pub invariant-turns : goal.invariant-turns
invariant-turns g l = record {
  kept : IsKept l.fn.tables l.tables;
  queue : IsQueue l.tables.queue;
  turning : IsTurning (scene_of (g.F.Field.graph l.field) (g.F.Field.rest l.field) l.guide l.tree (prices l.fn.tables)) (l.tree ++ l.roots) l.goals (state_of l.tables) l.tables.queue l.best.limit l.best.end;
}

abbrev pub decreases-turns : goal.decreases-turns
decreases-turns g l = unsettled (state_of l.tables) * 2 ^ 64 + size l.tables.queue
