use Rattle.std.proofs.Common.{◌∙◌, ◌∷◌, [], ap, arith, length, length-append, map}
use Rattle.std.proofs.lemmas.List.{length-map, map-append}
use Rattle.fab_bits.specs.Keys.{key_names}
use Rattle.fab_instances.proofs.Fitting.{ports_more}
use Rattle.fab_instances.proofs.formals.ports_of_models.Goals as goal

pub loop-model-preserved : goal.loop-model-preserved
loop-model-preserved c =
    let models = c.args.models.now in
    let at = c.loop-model.model-index in
    let old = c.loop-model.ports.items in
    let names = c.in_ok-ports_of.field-0 in
    record {
      size = omega (arith, ap length c.in_ok-push.ensures.items, length-append old (names ∷ []), c.loop-model.invariant.size);
      ports = ports_more models at c.model-item.result (map (λ names. key_names names.keys) old) (map (λ names. key_names names.keys) c.push.new.self.items) (key_names names.keys) c.loop-model-test.true c.model-item.is
          (length-map old (λ names. key_names names.keys) ∙ c.loop-model.invariant.size) c.loop-model.invariant.ports c.in_ok-ports_of.ensures
          (ap (map (λ names. key_names names.keys)) c.in_ok-push.ensures.items ∙ map-append (λ names. key_names names.keys) old (names ∷ []));
    }
