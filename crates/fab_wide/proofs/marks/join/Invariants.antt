use Rattle.std.proofs.Common.{◌≡◌, take}
use Rattle.fab_wide.specs.inner.Words.{joined}
use Rattle.fab_wide.proofs.marks.join.Given as goal

abbrev pub invariant-loop-place : goal.invariant-loop-place
invariant-loop-place l = l.words ≡ joined l.initial.words (take l.place l.block)
