use Rattle.std.proofs.Common.{◌≡◌, ◌++◌, map, take}
use Rattle.fab_phases.specs.declared.enables.Enable.TheVariants.{Gate}
use Rattle.fab_phases.specs.declared.flop_groups.FlopGroup.{FlopGroup}
use Rattle.fab_phases.specs.declared.loading.Run.{Run}
use Rattle.fab_phases.proofs.watched.enables_of.Given as goal

abbrev pub invariant-loop-run : goal.invariant-loop-run
invariant-loop-run l =
    l.enables.items ≡ map (λ (group : FlopGroup). group.enable) l.groups ++ map (λ (run : Run). Gate run.gate) (take l.run-index l.runs)
