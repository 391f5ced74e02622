use Rattle.std.proofs.Common.{◌≡◌, length, map, take}
use Rattle.fab_blif_models.specs.Plain.{plain_models}
use Rattle.fab_instances.specs.Formals.{HasPorts}
use Rattle.fab_bits.specs.Keys.{key_names}
use Rattle.fab_instances.proofs.formals.ports_of_models.Given as goal

abbrev pub invariant-loop-model : goal.invariant-loop-model
invariant-loop-model l = record {
  size : length l.ports.items ≡ l.model-index;
  ports : HasPorts (plain_models (take l.model-index l.models)) (map (λ names. key_names names.keys) l.ports.items);
}
