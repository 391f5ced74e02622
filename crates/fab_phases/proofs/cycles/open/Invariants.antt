use Rattle.std.proofs.Common.{◌≡◌, ℕ, ◌<◌}
use Rattle.std.specs.List.{slice_get}
use Rattle.std.proofs.Common.{Some}
use Rattle.fab_systems_laws.specs.Ternary.{unknown}
use Rattle.fab_network.specs.Passes.{kept_tern}
use Rattle.fab_phases.specs.Cycles.{IsIn}
use Rattle.fab_phases.proofs.cycles.open.Given as goal

abbrev pub invariant-loop-point : goal.invariant-loop-point
invariant-loop-point l = record {
  opened : (place point : ℕ) → place < l.point-index → slice_get l.ins place ≡ Some point → kept_tern l.given point ≡ unknown;
  others : (point : ℕ) → (IsIn l.ins point → ⊥) → kept_tern l.given point ≡ kept_tern l.fn.given point;
}
