use Rattle.std.proofs.Common.{◌≡◌, ◌+◌, ◌≤◌, ◌++◌}
use Rattle.fab_astar.specs.Queue.{IsQueue, size}
use Rattle.fab_astar.specs.Scene.{scene_of}
use Rattle.fab_astar.specs.State.{cost}
use Rattle.fab_astar.specs.Tables.{state_of, prices, IsKept}
use Rattle.fab_astar.proofs.Relaxing.{AreOffered}
use Rattle.fab_astar.proofs.explore.relax.Given as goal

abbrev pub invariant-loop-next : goal.invariant-loop-next
invariant-loop-next g l = record {
  kept : IsKept l.fn.tables l.tables;
  queue : IsQueue l.tables.queue;
  so_far : AreOffered (scene_of (g.F.Field.graph l.field) (g.F.Field.rest l.field) l.guide l._tree (prices l.fn.tables)) (l._tree ++ l._starts) l.limit (state_of l.fn.tables) (state_of l.tables) l.tables.queue l.node l.next-index;
  same : l.cost ≡ cost (state_of l.tables) l.node;
  size : size l.tables.queue ≤ size l.fn.tables.queue + l.next-index;
}
