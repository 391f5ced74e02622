use Rattle.std.proofs.Common.{◌≡◌, get_or, map, take}
use Rattle.std.specs.List.{sum_by}
use Rattle.fab_blif_models.specs.Plain.{plain_models}
use Rattle.fab_instances.specs.Counting.{in_64_bits, instances_at}
use Rattle.fab_bits.specs.Keys.{key_names}
use Rattle.fab_instances.proofs.counting.deeper_counts.Given as goal

abbrev pub invariant-loop-model : goal.invariant-loop-model
invariant-loop-model l = l.deeper.items ≡ map (λ model. in_64_bits (sum_by (instances_at (key_names l.places.keys) (λ inner. get_or l.counts inner 0)) model.statements)) (plain_models (take l.model-index l.models))
