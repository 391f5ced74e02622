use Rattle.std.proofs.Common.{◌+◌, ◌++◌, length}
use Rattle.fab_astar.specs.Queue.{IsQueue}
use Rattle.fab_astar.specs.Scene.{scene_of}
use Rattle.fab_astar.specs.State.{AreSeeded}
use Rattle.fab_astar.specs.Tables.{state_of, prices, IsKept}
use Rattle.fab_astar.proofs.explore.seed.Given as goal

abbrev pub invariant-loop-start : goal.invariant-loop-start
invariant-loop-start g l = record {
  kept : IsKept l.fn.tables l.tables;
  queue : IsQueue l.tables.queue;
  seeded : AreSeeded (scene_of (g.F.Field.graph l.field) (g.F.Field.rest l.field) l.guide l._tree (prices l.fn.tables)) (l._before ++ l.starts) (state_of l.tables) l.tables.queue (length l._before + l.start-index);
}
