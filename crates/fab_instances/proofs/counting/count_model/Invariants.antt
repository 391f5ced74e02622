use Rattle.std.proofs.Common.{◌≡◌, get_or, map, take}
use Rattle.std.specs.List.{sum_by}
use Rattle.fab_blif_models.specs.Plain.{plain_statement}
use Rattle.fab_instances.specs.Counting.{in_64_bits, instances_at}
use Rattle.fab_bits.specs.Keys.{key_names}
use Rattle.fab_instances.proofs.counting.count_model.Given as goal

abbrev pub invariant-loop-line : goal.invariant-loop-line
invariant-loop-line l = l.count ≡ in_64_bits (sum_by (instances_at (key_names l.places.keys) (λ place. get_or l.counts place 0)) (map plain_statement (take l.line-index l.model.statements.items)))
