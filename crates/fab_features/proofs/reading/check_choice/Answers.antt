use Rattle.std.proofs.Common.{◌∙◌, sym}
use Rattle.std.proofs.lemmas.Bool.{false≢true}
use Rattle.fab_features.specs.Wrong.{output_name}
use Rattle.fab_features.proofs.Chosen.{output_within, allowed, contrary_breaks, refused_by}
use Rattle.fab_features.proofs.reading.check_choice.Goals as goal

pub is_contrary-requires-clause-output : goal.is_contrary-requires-clause-output
is_contrary-requires-clause-output c = output_within c.args.fabric.now c.args.feature.now c.args.choice c.requires.said

pub returns-then-is_contrary-clause-err : goal.returns-then-is_contrary-clause-err
returns-then-is_contrary-clause-err c =
    let fabric = c.args.fabric.now in
    let feature = c.args.feature.now in
    let pair = c.args.choice in
    λ before holds.
    refused_by fabric before feature 11 c.in_ok-name.name (output_name fabric pair.x pair.y pair.output) c.broken_by.result c.broken_by.ensures c.in_ok-name.ensures
    (contrary_breaks fabric feature pair c.requires.said before c.args.table.now holds c.requires.inside (c.is_contrary.ensures.0 c.if-is_contrary.true))

pub returns-clause-allows : goal.returns-clause-allows
returns-clause-allows c =
    allowed c.args.fabric.now c.args.feature.now c.args.choice c.requires.said c.args.table.now (λ is. false≢true (sym c.if-is_contrary.false ∙ c.is_contrary.ensures.1 is))
