use Rattle.std.proofs.Common.{ap, ◌∙◌}
use Rattle.std.proofs.lemmas.Result.{err_from_is_err_and}
use Rattle.fab_tokens.specs.declared.scanner.Scan.{Scan}
use Rattle.fab_tokens.specs.Scanning.{after_byte}
use Rattle.fab_vread.specs.inner.Progress.{plain_progress}
use Rattle.fab_vread.proofs.Stepping.{first_fails, second_fails, byte_goes}
use Rattle.fab_vread.proofs.progress.Progress.take_byte.Goals as goal

pub returns-in_err-take_optional-clause-given : goal.returns-in_err-take_optional-clause-given
returns-in_err-take_optional-clause-given c =
    let told = err_from_is_err_and c.from_residual-in_err-take_optional.result c.from_residual-in_err-take_optional.ensures.1 in
    let is = c.in_ok-step.ensures ∙ ap (λ (s : Scan). after_byte s c.args.byte) c.replace-scan.ensures.value in
    rw (told.1, told.2) (first_fails c.args.file.now (plain_progress c.args.self.now) c.replace-scan.new.dest c.in_ok-step.step c.args.byte c.in_err-take_optional.field-0.0
    is c.in_err-take_optional.ensures.given)

pub returns-in_err-take_optional-2-clause-given : goal.returns-in_err-take_optional-2-clause-given
returns-in_err-take_optional-2-clause-given c =
    let told = err_from_is_err_and c.from_residual-in_err-take_optional-2.result c.from_residual-in_err-take_optional-2.ensures.1 in
    let is = c.in_ok-step.ensures ∙ ap (λ (s : Scan). after_byte s c.args.byte) c.replace-scan.ensures.value in
    rw (told.1, told.2) (second_fails c.args.file.now (plain_progress c.args.self.now) (plain_progress c.take_optional.new.self) c.replace-scan.new.dest c.in_ok-step.step
    c.args.byte c.in_err-take_optional-2.field-0.0 is c.in_ok-take_optional.ensures.given c.in_err-take_optional-2.ensures.given)

pub returns-clause-given : goal.returns-clause-given
returns-clause-given c =
    let is = c.in_ok-step.ensures ∙ ap (λ (s : Scan). after_byte s c.args.byte) c.replace-scan.ensures.value in
    rw (c.put.ensures, c.next_line-self.ensures.value) (byte_goes c.args.file.now (plain_progress c.args.self.now) (plain_progress c.take_optional.new.self)
    (plain_progress c.take_optional-2.new.self) c.replace-scan.new.dest c.in_ok-step.step c.args.byte is c.in_ok-take_optional.ensures.given c.in_ok-take_optional-2.ensures.given)
