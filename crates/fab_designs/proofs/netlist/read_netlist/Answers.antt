use Rattle.std.proofs.Common.{◌≡◌, ◌<◌, Ok, Some, refl}
use Rattle.std.proofs.lemmas.Result.{IfErr-weaker, err_from_is_err_and}
use Rattle.fab_desk.specs.Files.{Map}
use Rattle.fab_files.specs.Files.{MeetsFile, handed_out}
use Rattle.fab_files.specs.Stages.{of_file, of_bytes}
use Rattle.fab_files.proofs.Causes.{cause_weaker}
use Rattle.fab_designs.specs.Designs.{MeetsNetlist}
use Rattle.fab_designs.proofs.Causes.{blif_cause}
use Rattle.fab_designs.proofs.Parts.{netlist_read}
use Rattle.fab_designs.proofs.netlist.read_netlist.Goals as goal

pub returns-in_err-bytes-clause-cause : goal.returns-in_err-bytes-clause-cause
returns-in_err-bytes-clause-cause g c =
    let residual = err_from_is_err_and c.from_residual.result c.from_residual.ensures.1 in
    let told = g.D.Desk.told c.args.desk.now in
    let rose = g.D.Desk.reads c.args.desk.now < g.D.Desk.reads c.fetch.new.desk in
    rw (residual.1, residual.2) (cause_weaker told told rose rose (λ files. MeetsFile files c.args.blif.now) (λ files. MeetsNetlist files c.args.blif.now) c.in_err-bytes.field-0.0
    refl (λ r. r) (λ files is event met. of_file met) c.in_err-bytes.ensures.cause)

pub returns-clause-spelled : goal.returns-clause-spelled
returns-clause-spelled g c = λ files is.
    let found : handed_out files c.args.blif.now ≡ Ok c.deref.result.now = rw c.deref.ensures.value (c.in_ok-bytes.ensures.found files is) in
    netlist_read files c.args.blif.now c.deref.result.now c.split_netlist.result found c.split_netlist.ensures.spelled

pub returns-clause-cause : goal.returns-clause-cause
returns-clause-cause g c =
    let told = g.D.Desk.told c.args.desk.now in
    let rose = g.D.Desk.reads c.args.desk.now < g.D.Desk.reads c.fetch.new.desk in
    let blif = c.args.blif.now in
    let found : (files : Map) → told ≡ Some files → handed_out files blif ≡ Ok c.deref.result.now = λ files is. rw c.deref.ensures.value (c.in_ok-bytes.ensures.found files is) in
    IfErr-weaker c.split_netlist.result _ _
    (λ fault refused. blif_cause told rose (λ files. MeetsNetlist files blif) blif c.deref.result.now fault refused (λ files is why. of_bytes (found files is) why)) c.split_netlist.ensures.refused
