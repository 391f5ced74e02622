use Rattle.std.proofs.Common.{length}
use Rattle.fab_compiled.specs.Terns.{seen}
use Rattle.fab_network.specs.Sharing.{IsShared}
use Rattle.fab_phases.proofs.Telling.{IsTickedSoFar}
use Rattle.fab_phases.proofs.cycles.tick.Given as goal

abbrev pub invariant-loop-place : goal.invariant-loop-place
invariant-loop-place l = record {
  ticked : IsTickedSoFar l.network l.demand l.place l.fn.given l.given;
  shared : IsShared l.network.trees.items (length l.view.leads.now) (seen l.view.terns.now l.view.leads.now) l.shared;
}
