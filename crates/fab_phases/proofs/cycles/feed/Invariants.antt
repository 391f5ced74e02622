use Rattle.fab_network.specs.Passes.{kept_tern}
use Rattle.fab_phases.proofs.Telling.{IsFedSoFar}
use Rattle.fab_phases.proofs.cycles.feed.Given as goal

abbrev pub invariant-loop-place : goal.invariant-loop-place
invariant-loop-place l = IsFedSoFar l.ins l.inputs l.place (kept_tern l.fn.given) l.given
