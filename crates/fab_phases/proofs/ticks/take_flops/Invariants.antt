use Rattle.std.proofs.Common.{length}
use Rattle.fab_compiled.specs.Terns.{seen}
use Rattle.fab_network.specs.Sharing.{IsShared}
use Rattle.fab_phases.specs.inner.Ticks.{WritesFlops}
use Rattle.fab_phases.proofs.Ticking.{FlopsSoFar}
use Rattle.fab_phases.proofs.ticks.take_flops.Given as goal

abbrev pub invariant-loop-flop : goal.invariant-loop-flop
invariant-loop-flop l = record {
  left : FlopsSoFar l.network l.flops l.demand l.flop-index l.fn.given l.given;
  writes : WritesFlops l.flops l.fn.given l.given;
  shared : IsShared l.network.trees.items (length l.view.leads.now) (seen l.view.terns.now l.view.leads.now) l.shared;
}
