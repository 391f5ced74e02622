use Rattle.std.proofs.Common.{length}
use Rattle.fab_instances.proofs.ranking.Search.leave.Given as goal

abbrev pub decreases-loop-place : goal.decreases-loop-place
decreases-loop-place l = length l.self.open.items
