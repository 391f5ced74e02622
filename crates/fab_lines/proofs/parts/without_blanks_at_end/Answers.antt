use Rattle.std.proofs.Common.{◌≡◌, true, false, sym, ap, ◌∙◌}
use Rattle.fab_lines.specs.Parts.{without_back, is_blank}
use Rattle.fab_lines.proofs.LastItems.{without_back-passes, without_back-fails}
use Rattle.fab_lines.proofs.parts.without_blanks_at_end.Goals as goal

pub loop-last-preserved : goal.loop-last-preserved
loop-last-preserved c =
    let blank : is_blank c.in-Some.last.now ≡ true = cc in
    sym (without_back-passes is_blank c.in-Some.before.now c.in-Some.last.now blank) ∙ ap (without_back is_blank) (sym c.in-Some.ensures.cases.0) ∙ c.loop-last.invariant

pub returns-then-not-is_blank : goal.returns-then-not-is_blank
returns-then-not-is_blank c =
    let full : is_blank c.in-Some.last.now ≡ false = cc in
    c.in-Some.ensures.cases.0 ∙ sym (without_back-fails is_blank c.in-Some.before.now c.in-Some.last.now full) ∙ ap (without_back is_blank) (sym c.in-Some.ensures.cases.0) ∙ c.loop-last.invariant
