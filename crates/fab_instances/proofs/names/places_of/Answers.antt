use Rattle.std.proofs.Common.{◌≡◌, ◌∙◌, true, false, inr, rules}
use Rattle.std.specs.List.{list_any}
use Rattle.std.specs.Str.{bytes_eq}
use borrow.Author.Count.{below_more}
use Rattle.fab_blif_models.specs.Plain.{plain_models}
use Rattle.fab_instances.specs.Order.{is_again}
use Rattle.fab_bits.specs.Keys.{key_names}
use Rattle.fab_instances.proofs.Order.{again_here, fault_named, names_more, not_new, was_new, within_plain}
use Rattle.fab_instances.proofs.names.places_of.Goals as goal

pub returns-then-not-branch-clause-refused : goal.returns-then-not-branch-clause-refused
returns-then-not-branch-clause-refused c =
    let models = c.args.models.now in
    let at = c.loop-model.model-index in
    let model = c.model-item.result in
    let keys = key_names c.loop-model.places.keys in
    let added : c.in_ok-insert_new.field-0 ≡ false = search rules in
    let again : is_again (plain_models models) at ≡ true =
    again_here models at model keys c.loop-model-test.true c.model-item.is c.loop-model.invariant.places ∙ not_new c.in_ok-insert_new.field-0 (list_any (bytes_eq model.name) keys) c.in_ok-insert_new.ensures.added added in
    λ told. inr (
      at,
      record { within = within_plain models at c.loop-model-test.true; again = again; first = c.loop-model.invariant.differ },
      fault_named models at model c.args.file.now c.malformed-then-not-branch.result c.loop-model-test.true c.model-item.is told c.malformed-then-not-branch.ensures,
    )

pub loop-model-preserved : goal.loop-model-preserved
loop-model-preserved c =
    let models = c.args.models.now in
    let at = c.loop-model.model-index in
    let model = c.model-item.result in
    let keys = key_names c.loop-model.places.keys in
    let added : c.in_ok-insert_new.field-0 ≡ true = search rules in
    let here : is_again (plain_models models) at ≡ false =
    again_here models at model keys c.loop-model-test.true c.model-item.is c.loop-model.invariant.places ∙ was_new c.in_ok-insert_new.field-0 (list_any (bytes_eq model.name) keys) c.in_ok-insert_new.ensures.added added in
    record {
      places = names_more models at model keys (key_names c.insert_new.new.names.keys) c.in_ok-insert_new.field-0 c.loop-model-test.true c.model-item.is added c.in_ok-insert_new.ensures.names c.loop-model.invariant.places;
      differ = below_more _ _ c.loop-model.invariant.differ here;
    }
