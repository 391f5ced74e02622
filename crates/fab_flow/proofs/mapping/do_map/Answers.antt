use Rattle.std.proofs.Common.{All, map, arith, sym, subst}
use Rattle.std.specs.Option.{option_copied}
use Rattle.std.specs.Str.{IsUtf8}
use Rattle.std.proofs.lemmas.Result.{IfErr-weaker, on_ok_weaker, err_from_is_err_and}
use Rattle.fab_designs.specs.Designs.{design_files}
use Rattle.fab_outputs.specs.declared.storing.Output.{Output}
use Rattle.fab_outputs.specs.Storing.{plain_output}
use Rattle.fab_flow.specs.Mapping.{MappingFiles, IsMapped, MakesMapping, mapping_files}
use Rattle.fab_outputs.proofs.Ending.{leaves_of_store, done_of_store}
use Rattle.fab_flow.proofs.Mapped.{design_cause, mapping_cause, mapping_leaves, output_cause}
use Rattle.fab_flow.proofs.mapping.do_map.Goals as goal

-- ---- a file is refused

pub returns-in_err-design-clause-cause : goal.returns-in_err-design-clause-cause
returns-in_err-design-clause-cause g c =
    let residual = err_from_is_err_and c.from_residual.result c.from_residual.ensures.1 in
    let names : MappingFiles = mapping_files (design_files c.args.fabric.now c.args.blif.now (option_copied c.args.pcf)) c.args.out.now in
    rw (residual.1, residual.2) (design_cause (g.D.Desk.told c.args.desk.now) names c.args.rounds _ _ c.in_err-design.field-0.0 c.in_err-design.ensures.cause)

-- ---- the design is not mapped

pub returns-in_err-outputs-clause-leaves : goal.returns-in_err-outputs-clause-leaves
returns-in_err-outputs-clause-leaves g c =
    let residual = err_from_is_err_and c.from_residual-in_err-outputs.result c.from_residual-in_err-outputs.ensures.1 in
    let names : MappingFiles = mapping_files (design_files c.args.fabric.now c.args.blif.now (option_copied c.args.pcf)) c.args.out.now in
    rw (residual.1, residual.2)
    (mapping_leaves (λ files. MakesMapping files names c.args.rounds) (g.D.Desk.told c.args.desk.now) (g.D.Desk.told c.read_design.new.desk) c.in_ok-design.design c.args.rounds c.in_ok-design.ensures.told
    c.in_err-outputs.field-0.0 c.in_err-outputs.ensures.cause)

pub returns-in_err-outputs-clause-cause : goal.returns-in_err-outputs-clause-cause
returns-in_err-outputs-clause-cause g c =
    let residual = err_from_is_err_and c.from_residual-in_err-outputs.result c.from_residual-in_err-outputs.ensures.1 in
    let names : MappingFiles = mapping_files (design_files c.args.fabric.now c.args.blif.now (option_copied c.args.pcf)) c.args.out.now in
    rw (residual.1, residual.2)
    (mapping_cause (g.D.Desk.told c.args.desk.now) names c.args.rounds c.in_ok-design.design c.in_ok-design.ensures.spelled _ _ c.in_err-outputs.field-0.0 c.in_err-outputs.ensures.cause)

-- ---- the output is stored

pub store_all-requires : goal.store_all-requires
store_all-requires g c =
    subst (All (λ (output : Output). IsUtf8 output.name)) (sym c.deref.ensures.value) (c.in_ok-outputs.ensures.names c.requires.text)

pub returns-clause-done : goal.returns-clause-done
returns-clause-done g c =
    let names : MappingFiles = mapping_files (design_files c.args.fabric.now c.args.blif.now (option_copied c.args.pcf)) c.args.out.now in
    let told = g.D.Desk.told c.args.desk.now in
    let outputs = map plain_output c.deref.result.now in
    let of = c.in_ok-outputs.ensures in
    let mapped : IsMapped c.in_ok-design.design c.args.rounds c.args.out.now outputs =
    subst (λ items. IsMapped c.in_ok-design.design c.args.rounds c.args.out.now (map plain_output items)) (sym c.deref.ensures.value) of.made in
    on_ok_weaker c.store_all.result (λ stored. done_of_store (λ files. MakesMapping files names c.args.rounds) told outputs (g.D.Desk.told c.read_design.new.desk) (g.D.Desk.told c.store_all.new.desk)
    (λ files is. record { design = c.in_ok-design.design; spelled = c.in_ok-design.ensures.spelled files is; fits = of.fits; mapped = mapped }) c.in_ok-design.ensures.told stored) c.store_all.ensures.done

pub returns-clause-leaves : goal.returns-clause-leaves
returns-clause-leaves g c =
    let names : MappingFiles = mapping_files (design_files c.args.fabric.now c.args.blif.now (option_copied c.args.pcf)) c.args.out.now in
    let told = g.D.Desk.told c.args.desk.now in
    let outputs = map plain_output c.deref.result.now in
    let of = c.in_ok-outputs.ensures in
    let mapped : IsMapped c.in_ok-design.design c.args.rounds c.args.out.now outputs =
    subst (λ items. IsMapped c.in_ok-design.design c.args.rounds c.args.out.now (map plain_output items)) (sym c.deref.ensures.value) of.made in
    IfErr-weaker c.store_all.result _ _ (λ fault stopped. leaves_of_store (λ files. MakesMapping files names c.args.rounds) told outputs (g.D.Desk.told c.read_design.new.desk) (g.D.Desk.told c.store_all.new.desk) _ fault
    (λ files is. record { design = c.in_ok-design.design; spelled = c.in_ok-design.ensures.spelled files is; fits = of.fits; mapped = mapped }) c.in_ok-design.ensures.told stopped) c.store_all.ensures.stopped

pub returns-clause-cause : goal.returns-clause-cause
returns-clause-cause g c =
    let names : MappingFiles = mapping_files (design_files c.args.fabric.now c.args.blif.now (option_copied c.args.pcf)) c.args.out.now in
    let told = g.D.Desk.told c.args.desk.now in
    let first = c.in_ok-design.ensures.writes in
    IfErr-weaker c.store_all.result _ _ (λ fault stopped. output_cause told names c.args.rounds _ _ (map plain_output c.deref.result.now) _ _ _ fault
    (λ files is. record { design = c.in_ok-design.design; spelled = c.in_ok-design.ensures.spelled files is; fits = c.in_ok-outputs.ensures.fits })
    (λ rose. omega (arith, rose, first)) stopped) c.store_all.ensures.stopped
