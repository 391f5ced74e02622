use Rattle.std.proofs.Common.{◌≡◌, ℕ, ◌<◌, length, Some}
use Rattle.std.specs.List.{slice_get}
use Rattle.std.specs.Prelude.{true, replicate}
use Rattle.fab_phases.specs.inner.Enables.{Watches}
use Rattle.fab_phases.specs.declared.enables.Enable.{Enable}
use Rattle.fab_phases.proofs.watched.watches_of.Given as goal

abbrev pub invariant-loop-number : goal.invariant-loop-number
invariant-loop-number l = record {
  stale : l.watches.stale ≡ replicate (length l.enables) true;
  so_far : (number : ℕ) (enable : Enable) → number < l.number → slice_get l.enables number ≡ Some enable →
      Watches l.network l.places.own.now l.places.leads.now l.watches.readers.items number enable;
}
