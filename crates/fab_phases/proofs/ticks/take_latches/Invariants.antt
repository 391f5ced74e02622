use Rattle.std.proofs.Common.{length}
use Rattle.fab_compiled.specs.Terns.{seen}
use Rattle.fab_ternary.specs.Terns.{plain_tern}
use Rattle.fab_network.specs.Sharing.{IsShared}
use Rattle.fab_phases.specs.inner.Ticks.{WritesLatches}
use Rattle.fab_phases.proofs.Ticking.{LatchesSoFar}
use Rattle.fab_phases.proofs.ticks.take_latches.Given as goal

abbrev pub invariant-loop-latch : goal.invariant-loop-latch
invariant-loop-latch l = record {
  left : LatchesSoFar l.network (plain_tern l.gate) l.latches l.demand l.latch-index l.fn.given l.given;
  writes : WritesLatches l.latches l.fn.given l.given;
  shared : IsShared l.network.trees.items (length l.view.leads.now) (seen l.view.terns.now l.view.leads.now) l.shared;
}
