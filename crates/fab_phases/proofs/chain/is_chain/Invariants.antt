use Rattle.fab_phases.specs.inner.Chain.{IsInChainBefore}
use Rattle.fab_phases.proofs.chain.is_chain.Given as goal

abbrev pub invariant-loop-place : goal.invariant-loop-place
invariant-loop-place l = IsInChainBefore l.network l.demand l.source l.flops l.place
