use Rattle.fab_legal.specs.Turns.{FirstAreRight}
use Rattle.fab_legal.specs.inner.Tables.{key_lists}
use Rattle.fab_legal.specs.inner.Standing.{SinkStands}
use Rattle.fab_legal.proofs.standing.wrong_sink.Given as goal

abbrev pub invariant-loop-place : goal.invariant-loop-place
invariant-loop-place l = FirstAreRight (SinkStands l.placed l.numbers.keys (key_lists l.sets)) l.sinks l.place
