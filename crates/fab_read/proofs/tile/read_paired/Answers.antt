use Rattle.std.proofs.Common.{◌<◌, refl, ap, subst}
use Rattle.std.proofs.lemmas.Result.{err_from_is_err_and}
use Rattle.fab_base.specs.Reading.{IsFaultOr, fault_at}
use Rattle.fab_list_files.proofs.Rows.{cause_at}
use Rattle.fab_files.proofs.Causes.{cause_weaker}
use Rattle.std.specs.Option.{option_copied}
use Rattle.fab_read.specs.inner.Following.{judged_tile}
use Rattle.fab_read.specs.Tiles.{End, MeetsMatrix, MeetsTile}
use Rattle.fab_read.proofs.Paired.{refused_block, meets_matrix, reads_paired, pairs_cause}
use Rattle.fab_read.proofs.tile.read_paired.Goals as goal

pub returns-in-Err-clause-cause : goal.returns-in-Err-clause-cause
returns-in-Err-clause-cause g c =
    let end = c.args.end.now in
    let place : IsFaultOr c.at.result (fault_at end.file end.line c.in-Err.problem) = subst (λ (e : End). IsFaultOr c.at.result (fault_at e.file e.line c.in-Err.problem)) c.end.view_is c.at.ensures in
    cause_at (g.D.Desk.told c.args.desk.now) (g.D.Desk.reads c.args.desk.now < g.D.Desk.reads c.args.desk.now) (λ files. MeetsTile files end c.args.block) end.file end.line c.in-Err.problem c.at.result
    (judged_tile c.args.block) (λ files why is. refused_block files end c.args.block why is) c.in-Err.ensures place

pub returns-in_err-pairs-clause-cause : goal.returns-in_err-pairs-clause-cause
returns-in_err-pairs-clause-cause g c =
    let residual = err_from_is_err_and c.from_residual.result c.from_residual.ensures.1 in
    let told = g.D.Desk.told c.args.desk.now in
    let rose = g.D.Desk.reads c.args.desk.now < g.D.Desk.reads c.read_matrix.new.desk in
    let end = c.args.end.now in
    let left = ap (λ (e : End). e.left) c.end.view_is in
    rw (residual.1, residual.2) (cause_weaker told told rose rose (λ files. MeetsMatrix files c.end.inside.left c.in-Ok.made.0 (option_copied c.as_ref.result)) (λ files. MeetsTile files end c.args.block) c.in_err-pairs.field-0.0
    refl (λ r. r) (λ files is event met. meets_matrix files end c.args.block c.in-Ok.made c.in-Ok.ensures c.end.inside.left left (option_copied c.as_ref.result) c.as_ref.ensures.value event met) c.in_err-pairs.ensures.cause)

pub returns-in-Ok-set_pairs-clause-read : goal.returns-in-Ok-set_pairs-clause-read
returns-in-Ok-set_pairs-clause-read g c = λ files is.
    let left = ap (λ (e : End). e.left) c.end.view_is in
    reads_paired files c.args.end.now c.args.block c.in-Ok.made c.in-Ok.ensures c.end.inside.left left (option_copied c.as_ref.result) c.as_ref.ensures.value c.in_ok-pairs.pairs.items
    (c.in_ok-pairs.ensures.read files is) c.set_pairs.new.tile c.in-Ok-set_pairs.ensures

pub returns-in-Err-set_pairs-clause-cause : goal.returns-in-Err-set_pairs-clause-cause
returns-in-Err-set_pairs-clause-cause g c =
    let end = c.args.end.now in
    let problem = c.in-Err-set_pairs.problem in
    let fault = c.at-in-Err-set_pairs.result in
    let told = g.D.Desk.told c.args.desk.now in
    let left = ap (λ (e : End). e.left) c.end.view_is in
    let place : IsFaultOr fault (fault_at end.file end.line problem) = subst (λ (e : End). IsFaultOr fault (fault_at e.file e.line problem)) c.end.view_is c.at-in-Err-set_pairs.ensures in
    pairs_cause told (g.D.Desk.reads c.args.desk.now < g.D.Desk.reads c.read_matrix.new.desk) end c.args.block c.in-Ok.made c.in-Ok.ensures c.end.inside.left left (option_copied c.as_ref.result) c.as_ref.ensures.value
    c.in_ok-pairs.pairs.items (λ files is. c.in_ok-pairs.ensures.read files is) problem fault c.in-Err-set_pairs.ensures place
