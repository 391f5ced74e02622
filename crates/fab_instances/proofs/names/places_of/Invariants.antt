use Rattle.std.proofs.Common.{◌≡◌, ℕ, ◌<◌, false, take}
use Rattle.fab_blif_models.specs.Plain.{plain_models}
use Rattle.fab_instances.specs.Places.{model_names}
use Rattle.fab_instances.specs.Order.{is_again}
use Rattle.fab_bits.specs.Keys.{key_names}
use Rattle.fab_instances.proofs.names.places_of.Given as goal

abbrev pub invariant-loop-model : goal.invariant-loop-model
invariant-loop-model l = record {
  places : key_names l.places.keys ≡ model_names (plain_models (take l.model-index l.models));
  differ : (place : ℕ) → place < l.model-index → is_again (plain_models l.models) place ≡ false;
}
