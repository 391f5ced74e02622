use Rattle.std.proofs.Common.{◌∙◌, ap, map, arith, refl}
use Rattle.std.proofs.lemmas.Result.{IfErr-weaker, on_ok_weaker, err_from_is_err_and}
use Rattle.fab_list_files.specs.Sides.{MeetsPairs}
use Rattle.fab_outputs.specs.Storing.{plain_output}
use Rattle.fab_flow.specs.Matrix.{MakesMatrix, IsReadyForMatrix, matrix_refusals}
use Rattle.fab_outputs.proofs.Ending.{cause_of_supported, cause_of_store, leaves_of_store, done_of_store}
use Rattle.fab_flow.proofs.Spelled.{matrix_made}
use Rattle.fab_flow.proofs.matrix.do_matrix.Goals as goal

pub returns-in_err-pairs-clause-cause : goal.returns-in_err-pairs-clause-cause
returns-in_err-pairs-clause-cause g c =
    let residual = err_from_is_err_and c.from_residual.result c.from_residual.ensures.1 in
    let list = c.args.list.now in
    rw (residual.1, residual.2)
    (cause_of_supported (g.D.Desk.told c.args.desk.now) _ _ (λ files. MeetsPairs files list) (λ files. IsReadyForMatrix files list) matrix_refusals
    (record { missing = refl; long = refl; malformed = refl; limit = refl }) c.in_err-pairs.field-0.0 c.in_err-pairs.ensures.supported c.in_err-pairs.ensures.cause)

pub returns-clause-done : goal.returns-clause-done
returns-clause-done g c =
    let list = c.args.list.now in
    let outputs = map plain_output c.deref-2.result.now in
    on_ok_weaker c.store_all.result (λ stored. done_of_store (λ files. MakesMatrix files list c.args.out.now) (g.D.Desk.told c.args.desk.now) outputs (g.D.Desk.told c.read_pairs.new.desk) (g.D.Desk.told c.store_all.new.desk)
    (λ files is. matrix_made files list c.args.out.now c.in_ok-text.text.items c.in_ok-pairs.pairs.items c.deref.result.now outputs (c.in_ok-pairs.ensures.spelled files is) c.deref.ensures.value c.in_ok-text.ensures
    (ap (map plain_output) c.deref-2.ensures.value ∙ c.in_ok-outputs.ensures.are))
    c.in_ok-pairs.ensures.told stored) c.store_all.ensures.done

pub returns-clause-leaves : goal.returns-clause-leaves
returns-clause-leaves g c =
    let list = c.args.list.now in
    let outputs = map plain_output c.deref-2.result.now in
    IfErr-weaker c.store_all.result _ _ (λ fault stopped. leaves_of_store (λ files. MakesMatrix files list c.args.out.now) (g.D.Desk.told c.args.desk.now) outputs (g.D.Desk.told c.read_pairs.new.desk) (g.D.Desk.told c.store_all.new.desk) _ fault
    (λ files is. matrix_made files list c.args.out.now c.in_ok-text.text.items c.in_ok-pairs.pairs.items c.deref.result.now outputs (c.in_ok-pairs.ensures.spelled files is) c.deref.ensures.value c.in_ok-text.ensures
    (ap (map plain_output) c.deref-2.ensures.value ∙ c.in_ok-outputs.ensures.are))
    c.in_ok-pairs.ensures.told stopped) c.store_all.ensures.stopped

pub returns-clause-cause : goal.returns-clause-cause
returns-clause-cause g c =
    let wrote = c.in_ok-pairs.ensures.writes in
    IfErr-weaker c.store_all.result _ _ (λ fault stopped. cause_of_store (g.D.Desk.told c.args.desk.now) _ _ (λ files. MeetsPairs files c.args.list.now) (λ files. IsReadyForMatrix files c.args.list.now) matrix_refusals
    (map plain_output c.deref-2.result.now) _ _ _ fault (λ files is. (c.in_ok-pairs.pairs.items, c.in_ok-pairs.ensures.spelled files is)) (λ rose. omega (arith, rose, wrote)) stopped) c.store_all.ensures.stopped
