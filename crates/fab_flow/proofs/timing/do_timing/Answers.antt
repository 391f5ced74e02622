use Rattle.std.proofs.Common.{◌<◌, ◌∙◌, All, List, map, arith, sym, subst}
use Rattle.std.specs.Option.{option_copied}
use Rattle.std.specs.Str.{IsUtf8}
use Rattle.std.proofs.lemmas.Result.{IfErr-weaker, on_ok_weaker, err_from_is_err_and}
use Rattle.fab_outputs.specs.declared.storing.Output.{Output}
use Rattle.fab_outputs.specs.Storing.{plain_output}
use Rattle.fab_netlist.specs.Resets.{netlist_with}
use Rattle.fab_flow.specs.Assembling.{AssemblyFiles, IsReadyToAssemble, MeetsAssembly, assemble_refusals, assembly_files}
use Rattle.fab_flow.specs.Timing.{IsTimed, MakesTiming}
use Rattle.fab_outputs.proofs.Ending.{cause_of_store, leaves_of_store, done_of_store}
use Rattle.fab_flow.proofs.Assembled.{assembly_cause, assembly_leaves, design_cause, implementation_cause, read_behind}
use Rattle.fab_flow.proofs.timing.do_timing.Goals as goal

-- ---- a file is refused

pub returns-in_err-design-clause-cause : goal.returns-in_err-design-clause-cause
returns-in_err-design-clause-cause g c =
    let residual = err_from_is_err_and c.from_residual.result c.from_residual.ensures.1 in
    let names : AssemblyFiles = assembly_files c.args.fabric.now c.args.blif.now (option_copied c.args.pcf) c.args.implementation.now c.args.out.now in
    rw (residual.1, residual.2) (design_cause (g.D.Desk.told c.args.desk.now) names _ _ c.in_err-design.field-0.0 c.in_err-design.ensures.cause)

pub returns-in_err-read-clause-cause : goal.returns-in_err-read-clause-cause
returns-in_err-read-clause-cause g c =
    let residual = err_from_is_err_and c.from_residual-in_err-read.result c.from_residual-in_err-read.ensures.1 in
    let names : AssemblyFiles = assembly_files c.args.fabric.now c.args.blif.now (option_copied c.args.pcf) c.args.implementation.now c.args.out.now in
    let reads = g.D.Desk.reads in
    rw (residual.1, residual.2)
    (implementation_cause (g.D.Desk.told c.args.desk.now) (g.D.Desk.told c.read_design.new.desk) names _ c.in_ok-design.design
    (reads c.read_design.new.desk < reads c.read_implementation.new.desk) (reads c.args.desk.now < reads c.read_implementation.new.desk) _ c.in_err-read.field-0.0
    c.in_ok-design.ensures.told c.design.view_is (λ rose. omega (arith, rose, c.in_ok-design.ensures.reads)) c.in_ok-design.ensures.spelled c.in_err-read.ensures.cause)

-- ---- the implementation is refused

pub returns-in_err-outputs-clause-leaves : goal.returns-in_err-outputs-clause-leaves
returns-in_err-outputs-clause-leaves g c =
    let residual = err_from_is_err_and c.from_residual-in_err-outputs.result c.from_residual-in_err-outputs.ensures.1 in
    let names : AssemblyFiles = assembly_files c.args.fabric.now c.args.blif.now (option_copied c.args.pcf) c.args.implementation.now c.args.out.now in
    rw (residual.1, residual.2)
    (assembly_leaves (λ files. MakesTiming files names) (g.D.Desk.told c.args.desk.now) (g.D.Desk.told c.read_implementation.new.desk) c.in_ok-design.design c.in_ok-read.read c.in_err-outputs.field-0.0
    (c.in_ok-read.ensures.told ∙ c.in_ok-design.ensures.told) c.in_err-outputs.ensures.refused)

pub returns-in_err-outputs-clause-cause : goal.returns-in_err-outputs-clause-cause
returns-in_err-outputs-clause-cause g c =
    let residual = err_from_is_err_and c.from_residual-in_err-outputs.result c.from_residual-in_err-outputs.ensures.1 in
    let names : AssemblyFiles = assembly_files c.args.fabric.now c.args.blif.now (option_copied c.args.pcf) c.args.implementation.now c.args.out.now in
    let told = g.D.Desk.told c.args.desk.now in
    let implemented = read_behind told (g.D.Desk.told c.read_design.new.desk) c.args.implementation.now _ c.in_ok-design.design c.in_ok-read.read c.in_ok-design.ensures.told c.design.view_is c.in_ok-read.ensures.spelled in
    rw (residual.1, residual.2)
    (assembly_cause told names c.in_ok-design.design c.in_ok-read.read c.in_ok-design.ensures.spelled implemented _ _ c.in_err-outputs.field-0.0 c.in_err-outputs.ensures.refused)

-- ---- the outputs are stored

pub store_all-requires : goal.store_all-requires
store_all-requires g c =
    subst (All (λ (output : Output). IsUtf8 output.name)) (sym c.deref.ensures.value) (c.in_ok-outputs.ensures.names c.requires)

pub returns-clause-done : goal.returns-clause-done
returns-clause-done g c =
    let names : AssemblyFiles = assembly_files c.args.fabric.now c.args.blif.now (option_copied c.args.pcf) c.args.implementation.now c.args.out.now in
    let told = g.D.Desk.told c.args.desk.now in
    let implemented = read_behind told (g.D.Desk.told c.read_design.new.desk) c.args.implementation.now _ c.in_ok-design.design c.in_ok-read.read c.in_ok-design.ensures.told c.design.view_is c.in_ok-read.ensures.spelled in
    let outputs = map plain_output c.deref.result.now in
    let of = c.in_ok-outputs.ensures in
    let design = c.in_ok-design.design in
    let netlist = netlist_with c.in_ok-read.read.reset design.netlist in
    let made : IsTimed design.fabric netlist c.in_ok-read.read c.args.out.now outputs =
    subst (λ (items : List Output). IsTimed design.fabric netlist c.in_ok-read.read c.args.out.now (map plain_output items)) (sym c.deref.ensures.value) of.made in
    on_ok_weaker c.store_all.result (λ stored. done_of_store (λ files. MakesTiming files names) told outputs (g.D.Desk.told c.read_implementation.new.desk) (g.D.Desk.told c.store_all.new.desk)
    (λ files is. record {
      ready = record {
        design = c.in_ok-design.design;
        implementation = c.in_ok-read.read;
        spelled = c.in_ok-design.ensures.spelled files is;
        implemented = implemented files is;
        resets = of.resets;
        fits = of.fits;
        legal = of.legal;
      };
      made = made;
    })
    (c.in_ok-read.ensures.told ∙ c.in_ok-design.ensures.told) stored) c.store_all.ensures.done

pub returns-clause-leaves : goal.returns-clause-leaves
returns-clause-leaves g c =
    let names : AssemblyFiles = assembly_files c.args.fabric.now c.args.blif.now (option_copied c.args.pcf) c.args.implementation.now c.args.out.now in
    let told = g.D.Desk.told c.args.desk.now in
    let implemented = read_behind told (g.D.Desk.told c.read_design.new.desk) c.args.implementation.now _ c.in_ok-design.design c.in_ok-read.read c.in_ok-design.ensures.told c.design.view_is c.in_ok-read.ensures.spelled in
    let outputs = map plain_output c.deref.result.now in
    let of = c.in_ok-outputs.ensures in
    let design = c.in_ok-design.design in
    let netlist = netlist_with c.in_ok-read.read.reset design.netlist in
    let made : IsTimed design.fabric netlist c.in_ok-read.read c.args.out.now outputs =
    subst (λ (items : List Output). IsTimed design.fabric netlist c.in_ok-read.read c.args.out.now (map plain_output items)) (sym c.deref.ensures.value) of.made in
    IfErr-weaker c.store_all.result _ _ (λ fault stopped. leaves_of_store (λ files. MakesTiming files names) told outputs (g.D.Desk.told c.read_implementation.new.desk) (g.D.Desk.told c.store_all.new.desk) _ fault
    (λ files is. record {
      ready = record {
        design = c.in_ok-design.design;
        implementation = c.in_ok-read.read;
        spelled = c.in_ok-design.ensures.spelled files is;
        implemented = implemented files is;
        resets = of.resets;
        fits = of.fits;
        legal = of.legal;
      };
      made = made;
    })
    (c.in_ok-read.ensures.told ∙ c.in_ok-design.ensures.told) stopped) c.store_all.ensures.stopped

pub returns-clause-cause : goal.returns-clause-cause
returns-clause-cause g c =
    let names : AssemblyFiles = assembly_files c.args.fabric.now c.args.blif.now (option_copied c.args.pcf) c.args.implementation.now c.args.out.now in
    let told = g.D.Desk.told c.args.desk.now in
    let implemented = read_behind told (g.D.Desk.told c.read_design.new.desk) c.args.implementation.now _ c.in_ok-design.design c.in_ok-read.read c.in_ok-design.ensures.told c.design.view_is c.in_ok-read.ensures.spelled in
    let of = c.in_ok-outputs.ensures in
    let first = c.in_ok-design.ensures.writes in
    let second = c.in_ok-read.ensures.writes in
    IfErr-weaker c.store_all.result _ _ (λ fault stopped. cause_of_store told _ _ (λ files. MeetsAssembly files names) (λ files. IsReadyToAssemble files names) assemble_refusals
    (map plain_output c.deref.result.now) _ _ _ fault
    (λ files is. record { design = c.in_ok-design.design; implementation = c.in_ok-read.read; spelled = c.in_ok-design.ensures.spelled files is; implemented = implemented files is; resets = of.resets; fits = of.fits; legal = of.legal })
    (λ rose. omega (arith, rose, first, second)) stopped) c.store_all.ensures.stopped
