use Rattle.fab_legal.specs.Turns.{FirstAreRight}
use Rattle.fab_legal.specs.inner.Roots.{IsStart}
use Rattle.fab_legal.proofs.nets.wrong_start.Given as goal

abbrev pub invariant-loop-place : goal.invariant-loop-place
invariant-loop-place l = FirstAreRight (IsStart l.fabric l.root l.entered.keys) l.edges l.place
