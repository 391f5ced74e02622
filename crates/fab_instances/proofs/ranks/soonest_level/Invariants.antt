use Rattle.std.proofs.Common.{option_map}
use Rattle.fab_blif_models.specs.Plain.{plain_models}
use Rattle.fab_instances.proofs.Levels.{Levels}
use Rattle.fab_instances.proofs.ranks.soonest_level.Given as goal

abbrev pub invariant-loop-place : goal.invariant-loop-place
invariant-loop-place l = Levels (plain_models l.models) l.ranks l.place (option_map (λ found. (found.0, found.1.now)) l.found)
