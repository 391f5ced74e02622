use Rattle.fab_stepping.proofs.Solved.{BegunSoFar}
use Rattle.fab_stepping.proofs.board.Board.begin.Given as goal

abbrev pub invariant-loop-point : goal.invariant-loop-point
invariant-loop-point l = BegunSoFar l.network l.self l.point l.solution
