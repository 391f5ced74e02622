use Rattle.std.proofs.Common.{◌≡◌, ◌<◌, Ok, Some, refl}
use Rattle.std.proofs.lemmas.Result.{IfOk-weaker, IfErr-weaker, err_from_is_err_and}
use Rattle.fab_desk.specs.Files.{Map}
use Rattle.fab_files.specs.Files.{MeetsFile, handed_out}
use Rattle.fab_files.specs.Stages.{of_file, of_bytes}
use Rattle.fab_files.proofs.Causes.{cause_weaker}
use Rattle.fab_vread.specs.Refusals.{IsVerilogRefusal}
use Rattle.fab_simulate_command.specs.Simulating.{MeetsDevice, misspelled}
use Rattle.fab_simulate_command.proofs.Placed.{refused_cause}
use Rattle.fab_simulate_command.proofs.device.read_text.Goals as goal

pub returns-in_err-bytes-clause-cause : goal.returns-in_err-bytes-clause-cause
returns-in_err-bytes-clause-cause g c =
    let residual = err_from_is_err_and c.from_residual.result c.from_residual.ensures.1 in
    let told = g.D.Desk.told c.args.desk.now in
    let rose = g.D.Desk.reads c.args.desk.now < g.D.Desk.reads c.fetch.new.desk in
    let file = c.args.file.now in
    rw (residual.1, residual.2) (cause_weaker told told rose rose (λ files. MeetsFile files file) (λ files. MeetsDevice files file) c.in_err-bytes.field-0.0
    refl (λ r. r) (λ files is event met. of_file met) c.in_err-bytes.ensures.cause)

pub returns-clause-spelled : goal.returns-clause-spelled
returns-clause-spelled g c = λ files is.
    let found : handed_out files c.args.file.now ≡ Ok c.deref.result.now = rw c.deref.ensures.value (c.in_ok-bytes.ensures.found files is) in
    IfOk-weaker c.text_of_bytes.result _ _ (λ text spelled. record { bytes = c.deref.result.now; found = found; spelled = spelled }) c.text_of_bytes.ensures.spelled

pub returns-clause-cause : goal.returns-clause-cause
returns-clause-cause g c =
    let told = g.D.Desk.told c.args.desk.now in
    let rose = g.D.Desk.reads c.args.desk.now < g.D.Desk.reads c.fetch.new.desk in
    let file = c.args.file.now in
    let found : (files : Map) → told ≡ Some files → handed_out files file ≡ Ok c.deref.result.now = λ files is. rw c.deref.ensures.value (c.in_ok-bytes.ensures.found files is) in
    IfErr-weaker c.text_of_bytes.result _ _
    (λ fault refused. refused_cause told rose (λ files. MeetsDevice files file) file (IsVerilogRefusal file c.deref.result.now) fault (λ why. (why.line, why.problem, why.told)) refused
    (λ files is why. of_bytes (found files is) (misspelled why))) c.text_of_bytes.ensures.refused
