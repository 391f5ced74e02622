use Rattle.fab_ternary.specs.Terns.{plain_tern}
use Rattle.fab_network.specs.Passes.{kept_tern}
use Rattle.fab_sim.proofs.Building.{AreFilledSoFar}
use Rattle.fab_sim.proofs.starting.fill.Given as goal

abbrev pub invariant-loop-bit : goal.invariant-loop-bit
invariant-loop-bit l = AreFilledSoFar l.first l.width l.bit (plain_tern l.value) (kept_tern l.fn.given) l.given
