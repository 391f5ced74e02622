use Rattle.std.proofs.Common.{ℕ, ◌-◌, ◌<◌, ◌≤◌, length}
use Rattle.fab_changes.specs.Flags.{IsUnset}
use Rattle.fab_changes.proofs.flags.Flags.next_set.Given as goal

-- none is set so far
abbrev pub invariant-loop-number : goal.invariant-loop-number
invariant-loop-number l = record {
  low : l.from ≤ l.number;
  passed : (other : ℕ) → l.from ≤ other → other < l.number → other < length l.self-inside.flags.items → IsUnset l.self-inside.flags.items other;
}

abbrev pub decreases-loop-number : goal.decreases-loop-number
decreases-loop-number l = length l.self-inside.flags.items - l.number
