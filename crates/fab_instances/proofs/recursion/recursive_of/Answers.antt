use Rattle.std.proofs.Common.{◌≡◌, ◌∙◌, false, arith, length, rules, sym}
use Rattle.std.proofs.lemmas.List.{length-map}
use Rattle.fab_blif_models.specs.Plain.{plain_model, plain_models}
use Rattle.fab_instances.proofs.Recursions.{recursions_done, recursions_more, recursions_skipped}
use Rattle.fab_instances.proofs.recursion.recursive_of.Goals as goal

pub loop-place-preserved-then-not-is_marked : goal.loop-place-preserved-then-not-is_marked
loop-place-preserved-then-not-is_marked c =
    let unmarked : c.is_marked.result ≡ false = search rules in
    recursions_skipped (plain_models c.args.models.now) c.args.used.now c.loop-place.place _ c.requires.used (sym c.is_marked.ensures ∙ unmarked) c.loop-place.invariant

pub loop-place-preserved : goal.loop-place-preserved
loop-place-preserved c =
    recursions_more (plain_models c.args.models.now) c.loop-place.place _ _ _ c.in_ok-recursive_at.ensures c.sooner-found.ensures c.loop-place.invariant

pub returns : goal.returns
returns c =
    let models = plain_models c.args.models.now in
    let count : c.loop-place.place ≡ length models = omega (arith, length-map c.args.models.now plain_model) in
    recursions_done models c.loop-place.place _ count c.loop-place.invariant
