use Rattle.std.proofs.Common.{ℕ, ◌<◌, ◌≤◌}
use Rattle.fab_changes.specs.Flags.{IsUnset}
use Rattle.fab_changes.proofs.flags.has_set.Given as goal

-- none is set so far
abbrev pub invariant-loop-number : goal.invariant-loop-number
invariant-loop-number l = (other : ℕ) → l.begin ≤ other → other < l.number → IsUnset l.flags other
