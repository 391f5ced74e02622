use Rattle.std.proofs.Common.{ap, subst, ◌∙◌}
use Rattle.std.proofs.lemmas.Result.{err_from_is_err_and}
use Rattle.fab_base.specs.Reading.{Gives}
use Rattle.fab_syntax.specs.Plain.{plain_text}
use Rattle.fab_tokens.specs.Scanning.{at_end}
use Rattle.fab_vread.specs.inner.Progress.{plain_progress}
use Rattle.fab_vread.proofs.Stepping.{end_fails, check_fails, closes_as}
use Rattle.fab_vread.proofs.progress.Progress.finish.Goals as goal

pub returns-in_err-take_optional : goal.returns-in_err-take_optional
returns-in_err-take_optional c =
    let told = err_from_is_err_and c.from_residual-in_err-take_optional.result c.from_residual-in_err-take_optional.ensures.1 in
    let is = c.in_ok-token.ensures ∙ ap at_end c.replace-scan.ensures.value in
    rw (told.1, told.2) (end_fails c.args.file.now (plain_progress c.args.self.now) c.replace-scan.new.dest c.in_ok-token.token c.in_err-take_optional.field-0.0
    is c.in_err-take_optional.ensures.given)

pub returns-in_err-check_line : goal.returns-in_err-check_line
returns-in_err-check_line c =
    let told = err_from_is_err_and c.from_residual-in_err-check_line.result c.from_residual-in_err-check_line.ensures.1 in
    let is = c.in_ok-token.ensures ∙ ap at_end c.replace-scan.ensures.value in
    rw (told.1, told.2) (check_fails c.args.file.now (plain_progress c.args.self.now) (plain_progress c.take_optional.new.self) c.replace-scan.new.dest c.in_ok-token.token
    c.in_err-check_line.field-0.0 is c.in_ok-take_optional.ensures.given c.in_err-check_line.ensures)

pub returns : goal.returns
returns c =
    let is = c.in_ok-token.ensures ∙ ap at_end c.replace-scan.ensures.value in
    subst (λ given. Gives plain_text c.close.result given)
    (closes_as c.args.file.now (plain_progress c.args.self.now) (plain_progress c.take_optional.new.self) (plain_progress c.take_optional.new.self) c.replace-scan.new.dest
    c.in_ok-token.token is c.in_ok-take_optional.ensures.given c.in_ok-check_line.ensures)
    c.close.ensures
