use Rattle.std.proofs.Common.{length}
use Rattle.fab_phases.proofs.Grouping.{AreFlopGroupsSoFar}
use Rattle.fab_phases.proofs.flop_groups.groups_of.Given as goal

abbrev pub decreases-groups : goal.decreases-groups
decreases-groups l = length l.rest

abbrev pub invariant-groups : goal.invariant-groups
invariant-groups l = AreFlopGroupsSoFar l.network l.demand l.flops l.rest l.groups.items
