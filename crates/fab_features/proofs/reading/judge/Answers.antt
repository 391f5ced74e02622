use Rattle.fab_features.proofs.Chosen.{refused_by, unknown_breaks}
use Rattle.fab_features.proofs.reading.judge.Goals as goal

pub returns-in_default-clause-err : goal.returns-in_default-clause-err
returns-in_default-clause-err c =
    let feature = c.args.feature.now in
    λ before holds.
    refused_by c.args.fabric.now before feature 10 c.in_ok-copy.field-0 feature.name c.broken_by.result c.broken_by.ensures c.in_ok-copy.ensures
    (unknown_breaks c.args.fabric.now before feature c.in_default.ensures)
