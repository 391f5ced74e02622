use Rattle.std.proofs.Common.{◌≡◌, ◌∙◌, arith, length, sym}
use Rattle.std.proofs.lemmas.List.{length-map}
use Rattle.fab_blif_models.specs.Plain.{plain_model, plain_models}
use Rattle.fab_instances.proofs.Levels.{all_tested}
use Rattle.fab_instances.proofs.ranks.never_falls.Goals as goal

pub returns : goal.returns
returns c is =
    let models = plain_models c.args.models.now in
    let count : length c.args.models.now ≡ length models = sym (length-map c.args.models.now plain_model) in
    let all : c.loop-place.place ≡ length models = omega (arith, count) in
    all_tested models c.args.ranks.now c.args.used.now c.loop-place.place (c.requires.size ∙ count) c.requires.used all c.loop-place.invariant
