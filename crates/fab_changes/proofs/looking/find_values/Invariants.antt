use Rattle.std.proofs.Common.{length}
use Rattle.fab_compiled.specs.Terns.{seen}
use Rattle.fab_network.specs.Sharing.{IsShared}
use Rattle.fab_changes.specs.inner.Looking.{AreFound}
use Rattle.fab_changes.proofs.looking.find_values.Given as goal

-- the values so far are found
abbrev pub invariant-loop-place : goal.invariant-loop-place
invariant-loop-place l = record {
  found : AreFound l.network l.demand l.group l.place l.found;
  shared : IsShared l.network.trees.items (length l.view.leads.now) (seen l.view.terns.now l.view.leads.now) l.shared;
}
