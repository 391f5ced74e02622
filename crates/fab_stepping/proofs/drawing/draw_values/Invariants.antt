use Rattle.fab_stepping.proofs.Drawn.{DrawnSoFar}
use Rattle.fab_stepping.proofs.drawing.draw_values.Given as goal

abbrev pub invariant-loop-point : goal.invariant-loop-point
invariant-loop-point l = DrawnSoFar l.initial.random l.marks l.mark l.initial.terns l.terns l.point l.random
