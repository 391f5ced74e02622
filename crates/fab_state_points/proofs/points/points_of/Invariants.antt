use Rattle.fab_syntax.specs.Plain.{plain_text}
use Rattle.fab_state_points.proofs.Absent.{AreSoFar}
use Rattle.fab_state_points.proofs.points.points_of.Given as goal

abbrev pub invariant-loop-place : goal.invariant-loop-place
invariant-loop-place l = AreSoFar (plain_text l.equations) l.lines l.place l.numbers.items
