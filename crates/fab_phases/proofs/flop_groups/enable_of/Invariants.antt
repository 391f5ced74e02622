use Rattle.std.proofs.Common.{◌≡◌, ℕ, ◌<◌, Some}
use Rattle.std.specs.List.{slice_get}
use Rattle.fab_phases.specs.inner.Enables.{Holds}
use Rattle.fab_phases.specs.declared.enables.Enable.TheVariants.{Test}
use Rattle.fab_phases.specs.declared.loading.LoadedFlop.{LoadedFlop}
use Rattle.fab_phases.proofs.flop_groups.enable_of.Given as goal

abbrev pub invariant-loop-flop : goal.invariant-loop-flop
invariant-loop-flop l =
    (place : ℕ) (flop : LoadedFlop) → place < l.flop-index → slice_get l.flops place ≡ Some flop → Holds l.network l.demand (Test l.next) flop
