use Rattle.std.proofs.Common.{◌∙◌, All, List, ap, map, arith, refl, subst, sym}
use Rattle.std.specs.Str.{IsUtf8}
use Rattle.std.proofs.lemmas.Result.{IfErr-weaker, on_ok_weaker, err_from_is_err_and}
use Rattle.fab_files.specs.Stages.{at_first}
use Rattle.fab_read.specs.Fabrics.{MeetsFabric}
use Rattle.fab_outputs.specs.declared.storing.Output.{Output}
use Rattle.fab_outputs.specs.Storing.{plain_output}
use Rattle.fab_flow.specs.Generating.{generate_refusals}
use Rattle.fab_flow.specs.Serial.{MakesSerial, MeetsSerial, IsReadyForSerial}
use Rattle.fab_outputs.proofs.Ending.{cause_of_read, cause_of_store, leaves_of_read, leaves_of_store, done_of_store}
use Rattle.fab_flow.proofs.SerialMade.{serial_made, port_cause, port_leaves}
use Rattle.fab_flow.proofs.serial.do_serial.Goals as goal

pub returns-in_err-read-clause-cause : goal.returns-in_err-read-clause-cause
returns-in_err-read-clause-cause g c =
    let residual = err_from_is_err_and c.from_residual.result c.from_residual.ensures.1 in
    let name = c.args.fabric.now in
    rw (residual.1, residual.2)
    (cause_of_read (g.D.Desk.told c.args.desk.now) _ _ (λ files. MeetsSerial files name) (λ files. IsReadyForSerial files name) generate_refusals
    (record { missing = refl; long = refl; malformed = refl; unsupported = refl; limit = refl })
    (λ files. MeetsFabric files name) (λ files event is x. at_first x) c.in_err-read.field-0.0 c.in_err-read.ensures.cause)

pub returns-in_err-read-clause-leaves : goal.returns-in_err-read-clause-leaves
returns-in_err-read-clause-leaves g c =
    let residual = err_from_is_err_and c.from_residual.result c.from_residual.ensures.1 in
    let name = c.args.fabric.now in
    rw (residual.1, residual.2)
    (leaves_of_read (λ files. MakesSerial files name c.args.out.now) (g.D.Desk.told c.args.desk.now) _ (λ files. MeetsFabric files name) _
    c.in_err-read.field-0.0 c.in_err-read.ensures.cause c.in_err-read.ensures.told)

pub returns-in_err-text-clause-cause : goal.returns-in_err-text-clause-cause
returns-in_err-text-clause-cause g c =
    let residual = err_from_is_err_and c.from_residual-in_err-text.result c.from_residual-in_err-text.ensures.1 in
    rw (residual.1, residual.2)
    (port_cause (g.D.Desk.told c.args.desk.now) c.args.fabric.now _ _ c.in_ok-read.read c.in_err-text.field-0.0
    (λ files is. c.in_ok-read.ensures.spelled files is) c.in_err-text.ensures.refused)

pub returns-in_err-text-clause-leaves : goal.returns-in_err-text-clause-leaves
returns-in_err-text-clause-leaves g c =
    let residual = err_from_is_err_and c.from_residual-in_err-text.result c.from_residual-in_err-text.ensures.1 in
    rw (residual.1, residual.2)
    (port_leaves (λ files. MakesSerial files c.args.fabric.now c.args.out.now) (g.D.Desk.told c.args.desk.now) _ c.args.fabric.now c.in_ok-read.read
    c.in_err-text.field-0.0 c.in_ok-read.ensures.told c.in_err-text.ensures.refused)

pub store_all-requires : goal.store_all-requires
store_all-requires g c =
    subst (λ (outputs : List Output). All (λ (o : Output). IsUtf8 o.name) outputs) (sym c.deref.ensures.value) (c.in_ok-outputs.ensures.names c.requires)

pub returns-clause-done : goal.returns-clause-done
returns-clause-done g c =
    let name = c.args.fabric.now in
    let outputs = map plain_output c.deref.result.now in
    let text = c.in_ok-text.ensures in
    on_ok_weaker c.store_all.result
    (λ stored. done_of_store (λ files. MakesSerial files name c.args.out.now) (g.D.Desk.told c.args.desk.now) outputs
    (g.D.Desk.told c.read_fabric.new.desk) (g.D.Desk.told c.store_all.new.desk)
    (λ files is. serial_made files name c.args.out.now c.in_ok-text.text.items c.in_ok-read.read outputs (c.in_ok-read.ensures.spelled files is)
    text.frames text.printed text.is_text text.sound text.delivers text.loads text.short text.readable
    (ap (map plain_output) c.deref.ensures.value ∙ c.in_ok-outputs.ensures.are))
    c.in_ok-read.ensures.told stored) c.store_all.ensures.done

pub returns-clause-leaves : goal.returns-clause-leaves
returns-clause-leaves g c =
    let name = c.args.fabric.now in
    let outputs = map plain_output c.deref.result.now in
    let text = c.in_ok-text.ensures in
    IfErr-weaker c.store_all.result _ _
    (λ fault stopped. leaves_of_store (λ files. MakesSerial files name c.args.out.now) (g.D.Desk.told c.args.desk.now) outputs
    (g.D.Desk.told c.read_fabric.new.desk) (g.D.Desk.told c.store_all.new.desk) _ fault
    (λ files is. serial_made files name c.args.out.now c.in_ok-text.text.items c.in_ok-read.read outputs (c.in_ok-read.ensures.spelled files is)
    text.frames text.printed text.is_text text.sound text.delivers text.loads text.short text.readable
    (ap (map plain_output) c.deref.ensures.value ∙ c.in_ok-outputs.ensures.are))
    c.in_ok-read.ensures.told stopped) c.store_all.ensures.stopped

pub returns-clause-cause : goal.returns-clause-cause
returns-clause-cause g c =
    let name = c.args.fabric.now in
    let wrote = c.in_ok-read.ensures.writes in
    IfErr-weaker c.store_all.result _ _
    (λ fault stopped. cause_of_store (g.D.Desk.told c.args.desk.now) _ _ (λ files. MeetsSerial files name) (λ files. IsReadyForSerial files name)
    generate_refusals (map plain_output c.deref.result.now) _ _ _ fault
    (λ files is. record {
      fabric = c.in_ok-read.read;
      spelled = c.in_ok-read.ensures.spelled files is;
      frames = c.in_ok-text.ensures.frames;
      short = c.in_ok-text.ensures.short;
    }) (λ rose. omega (arith, rose, wrote)) stopped) c.store_all.ensures.stopped
