use Rattle.std.proofs.Common.{List, length, Result, Ok, Err, ◌∙◌, ap, sym, subst}
use Rattle.std.specs.Str.Lines.{lines}
use Rattle.std.proofs.lemmas.Result.{err_from_is_err_and}
use Rattle.fab_base.specs.declared.fault.Fault.{Fault}
use Rattle.fab_lines.specs.Joined.{joined_lines}
use Rattle.fab_lines.proofs.Judging.{gives_fine, gives_first, fine_gives, first_gives}
use Rattle.fab_blif_models.specs.inner.Following.{State}
use Rattle.fab_blif_models.specs.Plain.{PlainModel}
use Rattle.fab_blif_models.specs.Spelled.{spelled}
use Rattle.fab_blif_models.proofs.FollowsLines.{follows_judge}
use Rattle.fab_blif_models.proofs.LineOrder.{lines_count, spelled_ascend}
use Rattle.fab_blif_models.proofs.RulesOfLines.{spelled_keeps}
use Rattle.fab_blif_models.specs.Rules.{AreModels, LinesAscend}
use Rattle.fab_blif_models.proofs.reader.read_models.Goals as goal

pub returns-clause-fine : goal.returns-clause-fine
returns-clause-fine c = (gives_fine (follows_judge c.args.most) (λ (r : State). r) c.args.file.now (joined_lines c.args.bytes.now) (Ok c.in_ok-reader.reader) c.in_ok-reader.ensures).0

pub returns-clause-spelled : goal.returns-clause-spelled
returns-clause-spelled c =
    let read = gives_fine (follows_judge c.args.most) (λ (r : State). r) c.args.file.now (joined_lines c.args.bytes.now) (Ok c.in_ok-reader.reader) c.in_ok-reader.ensures in
    c.into_models.ensures ∙ ap (λ (s : State). s.models) read.1

pub returns-clause-refuses : goal.returns-clause-refuses
returns-clause-refuses c = first_gives (follows_judge c.args.most) (λ (r : State). r) c.args.file.now (joined_lines c.args.bytes.now) (Ok c.in_ok-reader.reader) c.in_ok-reader.ensures

pub returns-in_err-reader-clause-first : goal.returns-in_err-reader-clause-first
returns-in_err-reader-clause-first c =
    let p = err_from_is_err_and c.from_residual.result c.from_residual.ensures.1 in
    let failed : Result State Fault = Err c.in_err-reader.field-0.0 in
    rw (p.1, p.2) (gives_first (follows_judge c.args.most) (λ (r : State). r) c.args.file.now (joined_lines c.args.bytes.now) failed c.in_err-reader.ensures)

pub returns-in_err-reader-clause-reads : goal.returns-in_err-reader-clause-reads
returns-in_err-reader-clause-reads c =
    let p = err_from_is_err_and c.from_residual.result c.from_residual.ensures.1 in
    let failed : Result State Fault = Err c.in_err-reader.field-0.0 in
    rw (p.1, p.2) (fine_gives (follows_judge c.args.most) (λ (r : State). r) c.args.file.now (joined_lines c.args.bytes.now) failed c.in_err-reader.ensures)

pub returns-in_err-reader-clause-refuses : goal.returns-in_err-reader-clause-refuses
returns-in_err-reader-clause-refuses c =
    let p = err_from_is_err_and c.from_residual.result c.from_residual.ensures.1 in
    let failed : Result State Fault = Err c.in_err-reader.field-0.0 in
    rw (p.1, p.2) (first_gives (follows_judge c.args.most) (λ (r : State). r) c.args.file.now (joined_lines c.args.bytes.now) failed c.in_err-reader.ensures)

pub returns-clause-rules : goal.returns-clause-rules
returns-clause-rules c = subst (AreModels c.args.most) (sym (returns-clause-spelled c)) (spelled_keeps c.args.most c.requires.most.0 (joined_lines c.args.bytes.now) (returns-clause-fine c))

pub returns-clause-ascend : goal.returns-clause-ascend
returns-clause-ascend c =
    let text = joined_lines c.args.bytes.now in
    let counted : LinesAscend (spelled text) (length (lines c.args.bytes.now)) = subst (LinesAscend (spelled text)) (lines_count c.args.bytes.now) (spelled_ascend c.args.most text (returns-clause-fine c)) in
    subst (λ (models : List PlainModel). LinesAscend models (length (lines c.args.bytes.now))) (sym (returns-clause-spelled c)) counted
