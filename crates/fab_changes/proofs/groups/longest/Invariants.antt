use Rattle.std.proofs.Common.{◌≡◌, ℕ, ◌+◌, ◌<◌, ◌≤◌, Some, slice_get}
use Rattle.fab_changes.specs.declared.groups.Group.{Group}
use Rattle.fab_changes.proofs.groups.longest.Given as goal

-- no group so far is longer
abbrev pub invariant-loop-group : goal.invariant-loop-group
invariant-loop-group l = (number : ℕ) (group : Group) → number < l.group-index → slice_get l.groups number ≡ Some group → group.end ≤ group.begin + l.most
