use Rattle.std.proofs.Common.{◌++◌}
use Rattle.fab_astar.specs.Scene.{scene_of}
use Rattle.fab_astar.specs.State.{cost}
use Rattle.fab_astar.specs.Tables.{state_of, prices}
use Rattle.fab_astar.proofs.Least.{IsGoingBack}
use Rattle.fab_astar.proofs.walks.walk_back.Given as goal

abbrev pub invariant-back : goal.invariant-back
invariant-back g l = IsGoingBack (scene_of (g.F.Field.graph l._field) (g.F.Field.rest l._field) l.fn._guide l.fn.tree.items (prices l.tables)) (l.fn.tree.items ++ l._roots) (state_of l.tables) l.goal l.fn.tree.items l.tree.items l.at

abbrev pub decreases-back : goal.decreases-back
decreases-back g l = cost (state_of l.tables) l.at
