use Rattle.fab_changes.specs.inner.Grouping.{AreBitGroups}
use Rattle.fab_changes.proofs.groups.groups_of.Given as goal

-- the groups so far
abbrev pub invariant-loop-place : goal.invariant-loop-place
invariant-loop-place l = AreBitGroups l.network l.own l.place l.groups.items
