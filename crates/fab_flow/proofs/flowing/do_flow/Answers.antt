use Rattle.std.proofs.Common.{All, List, map, arith, refl, sym, subst}
use Rattle.std.specs.Option.{option_copied}
use Rattle.std.specs.Str.{IsUtf8}
use Rattle.std.proofs.lemmas.Result.{IfErr-weaker, on_ok_weaker, err_from_is_err_and}
use Rattle.fab_desk.specs.Files.{Map}
use Rattle.fab_files.specs.Files.{Event}
use Rattle.fab_outputs.specs.declared.storing.Output.{Output}
use Rattle.fab_outputs.specs.Storing.{PlainOutput, plain_output}
use Rattle.fab_flow.specs.Flowing.{FlowFiles, FailsToFlow, IsReadyToFlow, MakesFlow, MeetsFlow, flow_files, flow_refusals}
use Rattle.fab_outputs.proofs.Ending.{cause_of_store, leaves_of_store, done_of_store, searched}
use Rattle.fab_flow.proofs.Flowed.{design_cause, flow_cause, flow_leaves, flow_of}
use Rattle.fab_flow.proofs.flowing.do_flow.Goals as goal

-- ---- a file is refused

pub returns-in_err-design-clause-cause : goal.returns-in_err-design-clause-cause
returns-in_err-design-clause-cause g c =
    let residual = err_from_is_err_and c.from_residual.result c.from_residual.ensures.1 in
    let names : FlowFiles = flow_files c.args.fabric.now c.args.blif.now (option_copied c.args.pcf) (option_copied c.args.reset) c.args.base.now in
    rw (residual.1, residual.2) (design_cause (g.D.Desk.told c.args.desk.now) names c.args.rounds _ _ c.in_err-design.field-0.0 c.in_err-design.ensures.cause)

-- ---- nothing is made of the design

pub returns-in_err-outputs-clause-leaves : goal.returns-in_err-outputs-clause-leaves
returns-in_err-outputs-clause-leaves g c =
    let residual = err_from_is_err_and c.from_residual-in_err-outputs.result c.from_residual-in_err-outputs.ensures.1 in
    let names : FlowFiles = flow_files c.args.fabric.now c.args.blif.now (option_copied c.args.pcf) (option_copied c.args.reset) c.args.base.now in
    rw (residual.1, residual.2)
    (flow_leaves (λ files. MakesFlow files names c.args.rounds) (g.D.Desk.told c.args.desk.now) (g.D.Desk.told c.read_design.new.desk) c.in_ok-design.ensures.told
    c.args.fabric.now (option_copied c.args.reset) c.in_ok-design.design c.args.rounds c.in_err-outputs.field-0.0 c.in_err-outputs.ensures.ends)

pub returns-in_err-outputs-clause-cause : goal.returns-in_err-outputs-clause-cause
returns-in_err-outputs-clause-cause g c =
    let residual = err_from_is_err_and c.from_residual-in_err-outputs.result c.from_residual-in_err-outputs.ensures.1 in
    let names : FlowFiles = flow_files c.args.fabric.now c.args.blif.now (option_copied c.args.pcf) (option_copied c.args.reset) c.args.base.now in
    rw (residual.1, residual.2)
    (flow_cause (g.D.Desk.told c.args.desk.now) names c.args.rounds _ _ c.in_ok-design.design c.in_ok-design.ensures.spelled c.in_err-outputs.field-0.0 c.in_err-outputs.ensures.ends)

-- ---- the outputs are stored

pub store_all-requires : goal.store_all-requires
store_all-requires g c =
    subst (All (λ (output : Output). IsUtf8 output.name)) (sym c.deref.ensures.value) (c.in_ok-outputs.ensures.names c.requires.text)

pub returns-clause-done : goal.returns-clause-done
returns-clause-done g c =
    let names : FlowFiles = flow_files c.args.fabric.now c.args.blif.now (option_copied c.args.pcf) (option_copied c.args.reset) c.args.base.now in
    let told = g.D.Desk.told c.args.desk.now in
    let design = c.in_ok-design.design in
    let outputs = map plain_output c.deref.result.now in
    let of = c.in_ok-outputs.ensures in
    let spelled = c.in_ok-design.ensures.spelled in
    let makes : Map → List PlainOutput → Type 0 = λ files. MakesFlow files names c.args.rounds in
    on_ok_weaker c.store_all.result (λ stored. done_of_store makes told outputs (g.D.Desk.told c.read_design.new.desk) (g.D.Desk.told c.store_all.new.desk)
    (λ files is. record {
      design = design;
      spelled = spelled files is;
      resets = of.resets;
      fits = of.fits;
      made = flow_of files names design (spelled files is) c.args.rounds c.in_ok-outputs.outputs.items c.deref.result.now c.deref.ensures.value of.made;
    })
    c.in_ok-design.ensures.told stored) c.store_all.ensures.done

pub returns-clause-leaves : goal.returns-clause-leaves
returns-clause-leaves g c =
    let names : FlowFiles = flow_files c.args.fabric.now c.args.blif.now (option_copied c.args.pcf) (option_copied c.args.reset) c.args.base.now in
    let told = g.D.Desk.told c.args.desk.now in
    let design = c.in_ok-design.design in
    let outputs = map plain_output c.deref.result.now in
    let of = c.in_ok-outputs.ensures in
    let spelled = c.in_ok-design.ensures.spelled in
    let makes : Map → List PlainOutput → Type 0 = λ files. MakesFlow files names c.args.rounds in
    IfErr-weaker c.store_all.result _ _ (λ fault stopped. leaves_of_store makes told outputs (g.D.Desk.told c.read_design.new.desk) (g.D.Desk.told c.store_all.new.desk) _ fault
    (λ files is. record {
      design = design;
      spelled = spelled files is;
      resets = of.resets;
      fits = of.fits;
      made = flow_of files names design (spelled files is) c.args.rounds c.in_ok-outputs.outputs.items c.deref.result.now c.deref.ensures.value of.made;
    })
    c.in_ok-design.ensures.told stopped) c.store_all.ensures.stopped

pub returns-clause-cause : goal.returns-clause-cause
returns-clause-cause g c =
    let names : FlowFiles = flow_files c.args.fabric.now c.args.blif.now (option_copied c.args.pcf) (option_copied c.args.reset) c.args.base.now in
    let told = g.D.Desk.told c.args.desk.now in
    let wrote = c.in_ok-design.ensures.writes in
    let of = c.in_ok-outputs.ensures in
    let meets : Map → Event → Type 0 = λ files. MeetsFlow files names in
    let ready : Map → Type 0 = λ files. IsReadyToFlow files names in
    IfErr-weaker c.store_all.result _ _ (λ fault stopped. searched told _ _ meets ready (λ files. FailsToFlow files names c.args.rounds) flow_refusals refl refl fault
    (cause_of_store told _ _ meets ready flow_refusals (map plain_output c.deref.result.now) _ _ _ fault
    (λ files is. record { design = c.in_ok-design.design; spelled = c.in_ok-design.ensures.spelled files is; short = of.short; resets = of.resets; fits = of.fits }) (λ rose. omega (arith, rose, wrote)) stopped))
    c.store_all.ensures.stopped
