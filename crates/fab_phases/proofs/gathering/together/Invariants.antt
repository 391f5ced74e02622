use Rattle.std.proofs.Common.{◌≡◌, ℕ, ◌<◌, Some}
use Rattle.std.specs.List.{slice_get}
use Rattle.fab_phases.specs.Loading.{GoTogether}
use Rattle.fab_phases.specs.declared.gathering.GatedLatch.{GatedLatch}
use Rattle.fab_phases.proofs.gathering.together.Given as goal

abbrev pub invariant-loop-place : goal.invariant-loop-place
invariant-loop-place l =
    (place : ℕ) (gated : GatedLatch) → place < l.place → slice_get l.latches place ≡ Some gated → GoTogether l.network l.demand gated.gate l.gate
