use Rattle.fab_annealing.proofs.Foreseen.{IsSoFar}
use Rattle.fab_annealing.proofs.axis.Axis.forecast.Given as goal

abbrev pub invariant-loop-net : goal.invariant-loop-net
invariant-loop-net l = IsSoFar l.self.spans.items l.nets l.from l.to l.change l.net-index
