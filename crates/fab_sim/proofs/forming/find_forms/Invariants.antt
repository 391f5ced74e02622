use Rattle.fab_sim.proofs.Opening.{OpenedSoFar}
use Rattle.fab_sim.proofs.forming.find_forms.Given as goal

abbrev pub invariant-loop-place : goal.invariant-loop-place
invariant-loop-place l = OpenedSoFar l.place l.fn.demand l.demand
