use Rattle.std.proofs.Common.{option_map}
use Rattle.fab_blif_models.specs.Plain.{plain_models}
use Rattle.fab_instances.proofs.Recursions.{Recursions}
use Rattle.fab_instances.proofs.recursion.recursive_of.Given as goal

abbrev pub invariant-loop-place : goal.invariant-loop-place
invariant-loop-place l = Recursions (plain_models l.models) l.place (option_map (λ at. (at.0, at.1.now)) l.found)
