use Rattle.std.proofs.Common.{◌∙◌, rules}
use Rattle.std.proofs.lemmas.Iterator.{YieldsList-from_slice}
use Rattle.fab_blif.specs.declared.design.Use.{Use}
use Rattle.fab_blif.proofs.Least.{picked}
use Rattle.fab_blif.proofs.clocks.first_use.Goals as goal

pub returns : goal.returns
returns c =
    c.copied.ensures
    ∙ picked (λ (used : Use). used.line) _ _ (λ x k q called. search rules) _ c.min_by_key.result c.args.uses.now c.min_by_key.ensures.ran (YieldsList-from_slice c.args.uses.now cc)
