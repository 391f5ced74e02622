use Rattle.std.proofs.Common.{◌<◌, ℕ, get_or}
use Rattle.fab_instances.proofs.ranking.ranks_of.Given as goal

abbrev pub invariant-loop-member : goal.invariant-loop-member
invariant-loop-member l = (place : ℕ) → get_or l.ranks.items place 0 < l.count
