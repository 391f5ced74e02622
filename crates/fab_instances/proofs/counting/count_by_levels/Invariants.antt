use Rattle.fab_blif_models.specs.Plain.{plain_models}
use Rattle.fab_instances.proofs.Instances.{AreCounts}
use Rattle.fab_instances.proofs.counting.count_by_levels.Given as goal

abbrev pub invariant-loop-level : goal.invariant-loop-level
invariant-loop-level l = AreCounts (plain_models l.models) l._level l.counts.items
