use Rattle.std.proofs.Common.{◌≡◌, true, false, sym, ap, ◌∙◌}
use Rattle.fab_lines.specs.Parts.{without_back}
use Rattle.fab_lines.proofs.LastItems.{without_back-passes, without_back-fails}
use Rattle.fab_rows.specs.inner.Plain.{is_gap}
use Rattle.fab_rows.proofs.cells.without_gaps.Goals as goal

pub loop-last-preserved : goal.loop-last-preserved
loop-last-preserved c =
    let gap : is_gap c.in-Some.last.now ≡ true = cc in
    sym (without_back-passes is_gap c.in-Some.before.now c.in-Some.last.now gap) ∙ ap (without_back is_gap) (sym c.in-Some.ensures.cases.0) ∙ c.loop-last.invariant

pub returns-then-not-is_gap : goal.returns-then-not-is_gap
returns-then-not-is_gap c =
    let full : is_gap c.in-Some.last.now ≡ false = cc in
    c.in-Some.ensures.cases.0 ∙ sym (without_back-fails is_gap c.in-Some.before.now c.in-Some.last.now full) ∙ ap (without_back is_gap) (sym c.in-Some.ensures.cases.0) ∙ c.loop-last.invariant
