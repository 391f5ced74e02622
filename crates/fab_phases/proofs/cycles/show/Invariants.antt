use Rattle.fab_compiled.specs.Terns.{seen}
use Rattle.fab_phases.proofs.Telling.{AreShownSoFar}
use Rattle.fab_phases.proofs.cycles.show.Given as goal

abbrev pub invariant-loop-place : goal.invariant-loop-place
invariant-loop-place l = AreShownSoFar l.outs (seen l.demand.terns l.demand.leads) l.place l.outputs
