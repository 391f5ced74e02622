use Rattle.fab_sim.proofs.Marks.{UnmarkedSoFar}
use Rattle.fab_sim.proofs.stepping.unmark.Given as goal

abbrev pub invariant-loop-point : goal.invariant-loop-point
invariant-loop-point l = UnmarkedSoFar l.points l.point-index l.initial.marks l.marks
