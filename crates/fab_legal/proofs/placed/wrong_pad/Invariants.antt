use Rattle.fab_legal.specs.Turns.{FirstAreRight}
use Rattle.fab_legal.specs.inner.Kept.{HasOne}
use Rattle.fab_legal.proofs.placed.wrong_pad.Given as goal

abbrev pub invariant-loop-place : goal.invariant-loop-place
invariant-loop-place l = FirstAreRight (HasOne l.placed) l.pads l.place
