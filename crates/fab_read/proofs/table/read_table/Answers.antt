use Rattle.std.proofs.Common.{◌≡◌, ◌<◌, Some, Ok, refl}
use Rattle.std.proofs.lemmas.Result.{IfOk-weaker, IfErr-weaker, err_from_is_err_and}
use Rattle.fab_desk.specs.Files.{Map}
use Rattle.fab_files.specs.Files.{MeetsIfThere}
use Rattle.fab_files.proofs.Causes.{cause_weaker, text_cause}
use Rattle.fab_read.specs.Tiles.{table_bytes, by_default, by_table, MeetsTable, bad_table}
use Rattle.fab_read.proofs.Paired.{asks_or_long}
use Rattle.fab_read.proofs.table.read_table.Goals as goal

pub returns-in_err-fetch_if_there-clause-cause : goal.returns-in_err-fetch_if_there-clause-cause
returns-in_err-fetch_if_there-clause-cause g c =
    let residual = err_from_is_err_and c.from_residual.result c.from_residual.ensures.1 in
    let told = g.D.Desk.told c.args.desk.now in
    let rose = g.D.Desk.reads c.args.desk.now < g.D.Desk.reads c.fetch_if_there.new.desk in
    rw (residual.1, residual.2) (cause_weaker told told rose rose (λ files. MeetsIfThere files c.args.file.now) (λ files. MeetsTable files c.args.tile.now (Some c.args.file.now)) c.in_err-fetch_if_there.field-0.0
    refl (λ r. r) (λ files is event met. asks_or_long files c.args.tile.now c.args.file.now event met) c.in_err-fetch_if_there.ensures.cause)

pub returns-in_ok-default_places-in-None-clause-read : goal.returns-in_ok-default_places-in-None-clause-read
returns-in_ok-default_places-in-None-clause-read g c = λ files is.
    by_default (rw c.in-None.is at (c.in_ok-fetch_if_there.ensures.found files is)) c.in_ok-default_places-in-None.ensures.places

pub returns-in-Some-clause-read : goal.returns-in-Some-clause-read
returns-in-Some-clause-read g c = λ files is.
    let found : table_bytes files (Some c.args.file.now) ≡ Ok (Some c.deref.result.now) = rw c.deref.ensures.value (rw c.in-Some.is at (c.in_ok-fetch_if_there.ensures.found files is)) in
    IfOk-weaker c.read_config_table.result _ _ (λ table spelled. by_table found spelled) c.read_config_table.ensures.spelled

pub returns-in-Some-clause-cause : goal.returns-in-Some-clause-cause
returns-in-Some-clause-cause g c =
    let told = g.D.Desk.told c.args.desk.now in
    let rose = g.D.Desk.reads c.args.desk.now < g.D.Desk.reads c.fetch_if_there.new.desk in
    let found : (files : Map) → told ≡ Some files → table_bytes files (Some c.args.file.now) ≡ Ok (Some c.deref.result.now) = λ files is. rw c.deref.ensures.value (rw c.in-Some.is at (c.in_ok-fetch_if_there.ensures.found files is)) in
    IfErr-weaker c.read_config_table.result _ _
    (λ fault refused. text_cause told rose (λ files. MeetsTable files c.args.tile.now (Some c.args.file.now)) fault refused (λ files is why. bad_table (found files is) why))
    c.read_config_table.ensures.refusal
