use Rattle.std.proofs.Common.{◌≡◌, ◌∙◌, rules}
use Rattle.fab_blif_models.specs.Plain.{plain_models}
use Rattle.fab_blif.specs.Flat.{flat_lines}
use Rattle.fab_blif.specs.inner.Walk.{after_all, nothing}
use Rattle.fab_blif.proofs.Designed.{designed}
use Rattle.fab_blif.proofs.flattening.design_of.Goals as goal

pub returns : goal.returns
returns c =
    let text = flat_lines (plain_models c.args.models.now) in
    let taken : c.take_all.new.design ≡ after_all nothing text = search rules in
    taken ∙ designed text
