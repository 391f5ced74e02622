use Rattle.std.proofs.Common.{arith}
use Rattle.fab_astar.proofs.walks.cheap_root.Goals as goal

pub price-requires : goal.price-requires
price-requires c = c.requires c.loop-goal.goal-index 0 (omega arith)
