use Rattle.fab_stepping.proofs.Ticking.{TakenSoFar}
use Rattle.fab_stepping.proofs.board.take_over.Given as goal

abbrev pub invariant-loop-point : goal.invariant-loop-point
invariant-loop-point l = TakenSoFar l.marks l.mark l.from l.initial.terns l.terns l.point
