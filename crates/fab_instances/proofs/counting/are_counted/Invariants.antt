use Rattle.std.proofs.Common.{◌≡◌, ◌<◌, ℕ, get_or}
use Rattle.std.specs.List.{sum_by}
use Rattle.fab_blif_models.specs.Plain.{plain_models}
use Rattle.fab_instances.specs.Counting.{in_64_bits, instances_at}
use Rattle.fab_instances.specs.Places.{model_names, statements_of}
use Rattle.fab_instances.specs.Uses.{IsMarked}
use Rattle.fab_instances.proofs.counting.are_counted.Given as goal

abbrev pub invariant-loop-place : goal.invariant-loop-place
invariant-loop-place l = (before : ℕ) → before < l.place → IsMarked l.used before →
    get_or l.counts before 0 ≡ in_64_bits (sum_by (instances_at (model_names (plain_models l.models)) (λ inner. get_or l.counts inner 0)) (statements_of (plain_models l.models) before))
