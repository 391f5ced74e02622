use Rattle.std.proofs.Common.{◌≡◌, ◌∙◌, ℕ, List, length, replicate, sym, ap, arith, get_or, rules, add-one}
use Rattle.std.proofs.lemmas.List.{length-map}
use Rattle.fab_blif_models.specs.Plain.{plain_model, plain_models}
use Rattle.fab_instances.specs.Counting.{in_64_bits, instances_in}
use Rattle.fab_bits.specs.Keys.{key_names}
use Rattle.fab_instances.proofs.Instances.{levels_counted, more_counted, none_counted}
use Rattle.fab_instances.proofs.counting.count_by_levels.Goals as goal

pub loop-level-init : goal.loop-level-init
loop-level-init c =
    let filled : c.in_ok-counts.counts.items ≡ replicate (length c.args.models.now) 0 = search rules in
    none_counted (plain_models c.args.models.now) (length c.args.models.now) c.in_ok-counts.counts.items filled

pub loop-level-preserved : goal.loop-level-preserved
loop-level-preserved c place =
    let models = plain_models c.args.models.now in
    more_counted models (key_names c.args.places.now.keys) c.loop-level._level c.deref.result.now c.in_ok-counts-2.counts.items c.requires.places c.in_ok-counts-2.ensures
    (λ inner. ap (λ (all : List ℕ). get_or all inner 0) c.deref.ensures.value ∙ c.loop-level.invariant inner) place
    ∙ ap (λ (deep : ℕ). in_64_bits (instances_in models deep place)) (sym (add-one c.loop-level._level))

pub returns : goal.returns
returns c =
    let all : c.loop-level._level ≡ length (plain_models c.args.models.now) = omega (arith, length-map c.args.models.now plain_model) in
    c.count_at.ensures ∙ ap (λ (all : List ℕ). get_or all 0 0) c.deref-2.ensures.value
    ∙ levels_counted (plain_models c.args.models.now) c.loop-level._level c.loop-level.counts.items all c.loop-level.invariant
