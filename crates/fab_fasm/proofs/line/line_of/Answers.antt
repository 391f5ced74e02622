use Rattle.std.proofs.Common.{◌≡◌, ◌∙◌, sym, ap, subst, eqb, length, false, Option, Result}
use Rattle.fab_base.specs.declared.problem.Problem.{Problem}
use Rattle.fab_base.specs.Reading.{Answers}
use Rattle.fab_fasm.specs.declared.feature.Feature.{Feature}
use Rattle.fab_fasm.specs.Fasm.{line_of_text}
use Rattle.fab_fasm.proofs.FirstPart.{line_of_word, unreturned_line}
use Rattle.fab_fasm.proofs.line.line_of.Goals as goal

pub returns-then-not-is_empty : goal.returns-then-not-is_empty
returns-then-not-is_empty c =
    let some : eqb (length c.feature_run.result.0.now) 0 ≡ false = cc in
    let same = ap (line_of_text c.args.line) c.unblanked-text.ensures ∙ unreturned_line c.args.line c.args.text.now (sym c.has_return.ensures ∙ c.if-has_return.false) in
    subst (λ (given : Result (Option Feature) Problem). Answers (λ said. said) c.feature_line.result given) same
    (line_of_word c.args.line c.unblanked-text.result.now c.feature_run.result.0.now c.feature_run.result.1.now c.feature_line.result c.feature_run.ensures.word c.feature_run.ensures.rest some c.feature_line.ensures)
