use Rattle.std.proofs.Common.{◌≡◌, ◌≤◌, ◌⊎◌, ℕ, List, All, ap, ◌∙◌, map, option_copied, sym, subst}
use Rattle.std.proofs.lemmas.Result.{IfErr-weaker, IfOk-weaker, on_ok_weaker, err_from_is_err_and}
use Rattle.fab_base.specs.declared.fault.Fault.TheVariants as faults
use Rattle.fab_syntax.specs.Spelling.{text_bytes}
use Rattle.fab_gen_tile.specs.Words.{IsNamed}
use Rattle.fab_netlist.specs.Cycles.{HasNoCycle}
use Rattle.fab_netlist.specs.Packing.{packed}
use Rattle.fab_netlist.specs.Resets.{netlist_with}
use Rattle.fab_implementation.specs.Plain.{PlainImplementation}
use Rattle.fab_legal.specs.Legal.{IsLegal}
use Rattle.fab_ways_laws.specs.Mapping.{IsMapping}
use Rattle.fab_state.specs.Constraints.{AreFixings, data_ports}
use Rattle.fab_assemble.specs.fab_drives_laws_Drives.{ShowsDrives}
use Rattle.fab_assemble.specs.fab_text_loads_laws_Loads.{LoadsConfigurations}
use Rattle.fab_assemble.specs.fab_fabric_text_defs_Texts.{IsFabricText}
use Rattle.fab_assemble.specs.fab_features_Naming.{HasPrefixes}
use Rattle.fab_designs.specs.Designs.{PlainDesign}
use Rattle.fab_outputs.specs.Storing.{plain_output}
use Rattle.fab_flow.specs.Generating.{generated_text, text_length, most_text_bytes, IsTooLong}
use Rattle.fab_flow.specs.Assembling.{Fits}
use Rattle.fab_flow.specs.Mapping.{EndsUnmapped}
use Rattle.fab_flow.specs.Resetting.{HasReset, LacksReset}
use Rattle.fab_flow.proofs.Flowed.{AreAssembled, flow_is, text_ends, reset_ends, mapping_ends}
use Rattle.fab_flow.proofs.ResetPorts.{ports_with, seen}
use Rattle.fab_flow.proofs.flowing.flowed.Goals as goal

-- ---- nothing is made

pub returns-in_err-text-clause-ends : goal.returns-in_err-text-clause-ends
returns-in_err-text-clause-ends g c =
    let residual = err_from_is_err_and c.from_residual.result c.from_residual.ensures.1 in
    let fault = c.in_err-text.field-0.0 in
    rw (residual.1, residual.2)
    (text_ends c.args.name.now (option_copied c.args.reset) c.args.design c.args.rounds fault
    (subst (λ (d : PlainDesign). (fault ≡ faults.Memory) ⊎ IsTooLong c.args.name.now d.fabric fault) c.design.view_is c.in_err-text.ensures.long))

pub returns-in_err-take_reset-clause-ends : goal.returns-in_err-take_reset-clause-ends
returns-in_err-take_reset-clause-ends g c =
    let residual = err_from_is_err_and c.from_residual-in_err-take_reset.result c.from_residual-in_err-take_reset.ensures.1 in
    let fault = c.in_err-take_reset.field-0.0 in
    let port = option_copied c.args.reset in
    rw (residual.1, residual.2)
    (reset_ends c.args.name.now port c.args.design c.args.rounds fault
    (subst (λ (d : PlainDesign). text_length d.fabric ≤ most_text_bytes) c.design.view_is c.in_ok-text.ensures.short)
    (subst (λ (d : PlainDesign). (fault ≡ faults.Memory) ⊎ LacksReset port d.netlist fault) c.design.view_is c.in_err-take_reset.ensures.refused))

pub returns-clause-ends : goal.returns-clause-ends
returns-clause-ends g c =
    let port = option_copied c.args.reset in
    let inside : PlainDesign = record { fabric = c.design.inside.fabric; netlist = c.design.inside.netlist; fixed = c.design.inside.fixed } in
    let few = subst (λ (d : PlainDesign). text_length d.fabric ≤ most_text_bytes) c.design.view_is c.in_ok-text.ensures.short in
    let has = subst (λ (d : PlainDesign). HasReset port d.netlist) c.design.view_is c.in_ok-take_reset.ensures.has in
    IfErr-weaker c.mapped_outputs.result _ _ (λ fault ends. mapping_ends c.args.name.now port c.args.design c.args.rounds fault few has
    (seen (λ d. EndsUnmapped d c.args.rounds fault) port inside c.args.design _ c.design.view_is c.in_ok-take_reset.ensures.set ends)) c.mapped_outputs.ensures.ends

-- ---- the design with its reset port

pub mapped_outputs-requires-clause-no_cycle : goal.mapped_outputs-requires-clause-no_cycle
mapped_outputs-requires-clause-no_cycle g c =
    c.in_ok-take_reset.ensures.acyclic (subst (λ (d : PlainDesign). HasNoCycle d.netlist) (sym c.design.view_is) c.requires.no_cycle)

pub mapped_outputs-requires-clause-fixings : goal.mapped_outputs-requires-clause-fixings
mapped_outputs-requires-clause-fixings g c =
    let netlist = c.design.inside.netlist in
    let own = subst (λ (d : PlainDesign). AreFixings d.fabric (data_ports d.netlist) d.fixed) (sym c.design.view_is) c.requires.fixings in
    let ports = ap data_ports c.in_ok-take_reset.ensures.set ∙ ports_with (option_copied c.args.reset) netlist in
    subst (λ (names : List (List ℕ)). AreFixings c.design.inside.fabric names c.design.inside.fixed) (sym ports) own

-- ---- what is made

pub returns-clause-short : goal.returns-clause-short
returns-clause-short g c =
    on_ok_weaker c.mapped_outputs.result (λ fits. subst (λ (d : PlainDesign). text_length d.fabric ≤ most_text_bytes) c.design.view_is c.in_ok-text.ensures.short)
    c.mapped_outputs.ensures.fits

pub returns-clause-resets : goal.returns-clause-resets
returns-clause-resets g c =
    on_ok_weaker c.mapped_outputs.result
    (λ fits. subst (λ (d : PlainDesign). HasReset (option_copied c.args.reset) d.netlist) c.design.view_is c.in_ok-take_reset.ensures.has) c.mapped_outputs.ensures.fits

pub returns-clause-fits : goal.returns-clause-fits
returns-clause-fits g c =
    let inside : PlainDesign = record { fabric = c.design.inside.fabric; netlist = c.design.inside.netlist; fixed = c.design.inside.fixed } in
    on_ok_weaker c.mapped_outputs.result
    (seen (λ d. Fits d.fabric d.netlist) (option_copied c.args.reset) inside c.args.design _ c.design.view_is c.in_ok-take_reset.ensures.set)
    c.mapped_outputs.ensures.fits

pub returns-clause-made : goal.returns-clause-made
returns-clause-made g c =
    let design = c.args.design in
    let port = option_copied c.args.reset in
    let inside : PlainDesign = record { fabric = c.design.inside.fabric; netlist = c.design.inside.netlist; fixed = c.design.inside.fixed } in
    let text = c.in_ok-text.text.items in
    let of = c.in_ok-text.ensures in
    let printed : text ≡ text_bytes (generated_text design.fabric) = subst (λ (d : PlainDesign). text ≡ text_bytes (generated_text d.fabric)) c.design.view_is of.printed in
    let is_text : All IsNamed design.fabric.types → IsFabricText design.fabric (generated_text design.fabric) =
    subst (λ (d : PlainDesign). All IsNamed d.fabric.types → IsFabricText d.fabric (generated_text d.fabric)) c.design.view_is of.is_text in
    let drives : ShowsDrives design.fabric (generated_text design.fabric) = subst (λ (d : PlainDesign). ShowsDrives d.fabric (generated_text d.fabric)) c.design.view_is of.drives in
    let loads : All IsNamed design.fabric.types → LoadsConfigurations design.fabric (generated_text design.fabric) =
    subst (λ (d : PlainDesign). All IsNamed d.fabric.types → LoadsConfigurations d.fabric (generated_text d.fabric)) c.design.view_is of.loads in
    let few : text_length design.fabric ≤ most_text_bytes = subst (λ (d : PlainDesign). text_length d.fabric ≤ most_text_bytes) c.design.view_is of.short in
    IfOk-weaker c.mapped_outputs.result _ _ (λ outputs made named prefixed.
    let all = seen (λ d. All IsNamed d.fabric.types → All HasPrefixes d.fabric.types
    → (implementation : PlainImplementation) × IsMapping d.fabric (packed d.netlist) d.fixed c.args.rounds implementation
    × IsLegal d.fabric (packed d.netlist) d.fixed implementation
    × AreAssembled d.fabric d.netlist implementation c.args.base.now text (map plain_output outputs.items)) port inside design _ c.design.view_is
    c.in_ok-take_reset.ensures.set made named prefixed in
    flow_is design.fabric (netlist_with port design.netlist) design.fixed c.args.rounds c.args.base.now text all.0 (map plain_output outputs.items)
    printed (is_text named) drives (loads named) few of.readable all.1 all.2 all.3) c.mapped_outputs.ensures.made
