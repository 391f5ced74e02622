use Rattle.fab_network.specs.Passes.{kept_tern}
use Rattle.fab_sim.proofs.Ended.{AreShownSoFar}
use Rattle.fab_sim.proofs.stepper.show.Given as goal

abbrev pub invariant-loop-place : goal.invariant-loop-place
invariant-loop-place l = AreShownSoFar l.outs (kept_tern l.terns) l.place l.outputs
