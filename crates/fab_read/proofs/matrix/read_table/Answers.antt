use Rattle.std.proofs.Common.{◌≡◌, ◌<◌, Some, Ok, refl}
use Rattle.std.proofs.lemmas.Result.{IfOk-weaker, IfErr-weaker, err_from_is_err_and}
use Rattle.fab_desk.specs.Files.{Map}
use Rattle.fab_files.specs.Files.{handed_out, MeetsFile}
use Rattle.fab_files.proofs.Causes.{cause_weaker, text_cause}
use Rattle.fab_read.specs.Tiles.{of_table, MeetsMatrix, at_table, in_table}
use Rattle.fab_read.proofs.matrix.read_table.Goals as goal

pub returns-in_err-bytes-clause-cause : goal.returns-in_err-bytes-clause-cause
returns-in_err-bytes-clause-cause g c =
    let residual = err_from_is_err_and c.from_residual.result c.from_residual.ensures.1 in
    let told = g.D.Desk.told c.args.desk.now in
    let rose = g.D.Desk.reads c.args.desk.now < g.D.Desk.reads c.fetch.new.desk in
    rw (residual.1, residual.2) (cause_weaker told told rose rose (λ files. MeetsFile files c.args.file.now) (λ files. MeetsMatrix files c.args.left c.args.tile.now (Some c.args.file.now)) c.in_err-bytes.field-0.0
    refl (λ r. r) (λ files is event met. at_table c.requires met) c.in_err-bytes.ensures.cause)

pub returns-clause-read : goal.returns-clause-read
returns-clause-read g c = λ files is.
    let found : handed_out files c.args.file.now ≡ Ok c.deref.result.now = rw c.deref.ensures.value (c.in_ok-bytes.ensures.found files is) in
    IfOk-weaker c.read_matrix_csv.result _ _ (λ pairs spelled. of_table c.requires found spelled) c.read_matrix_csv.ensures.spelled

pub returns-clause-cause : goal.returns-clause-cause
returns-clause-cause g c =
    let told = g.D.Desk.told c.args.desk.now in
    let rose = g.D.Desk.reads c.args.desk.now < g.D.Desk.reads c.fetch.new.desk in
    let found : (files : Map) → told ≡ Some files → handed_out files c.args.file.now ≡ Ok c.deref.result.now = λ files is. rw c.deref.ensures.value (c.in_ok-bytes.ensures.found files is) in
    IfErr-weaker c.read_matrix_csv.result _ _
    (λ fault refused. text_cause told rose (λ files. MeetsMatrix files c.args.left c.args.tile.now (Some c.args.file.now)) fault refused (λ files is why. in_table c.requires (found files is) why))
    c.read_matrix_csv.ensures.refusal
