use Rattle.fab_network.specs.Passes.{kept_tern}
use Rattle.fab_phases.proofs.Offering.{IsOfferedSoFar}
use Rattle.fab_phases.proofs.words.offer.Given as goal

abbrev pub invariant-loop-bit : goal.invariant-loop-bit
invariant-loop-bit l = IsOfferedSoFar l.first l.word l.bit l.rest (kept_tern l.fn.given) l.given
