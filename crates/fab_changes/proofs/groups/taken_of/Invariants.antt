use Rattle.fab_changes.specs.inner.Grouping.{AreTaken}
use Rattle.fab_changes.proofs.groups.taken_of.Given as goal

-- the inputs and flip-flops so far
abbrev pub invariant-loop-place : goal.invariant-loop-place
invariant-loop-place l = AreTaken l.network l.own l.place l.taken.items
