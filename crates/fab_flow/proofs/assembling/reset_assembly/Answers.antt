use Rattle.std.proofs.Common.{◌≡◌, ◌⊎◌, ℕ, List, All, Option, map, ap, ◌∙◌, sym, subst}
use Rattle.std.proofs.lemmas.Result.{IfErr-weaker, IfOk-weaker, on_ok_weaker, err_from_is_err_and}
use Rattle.fab_base.specs.declared.fault.Fault.TheVariants as faults
use Rattle.fab_gen_tile.specs.Words.{IsNamed}
use Rattle.fab_assemble.specs.fab_features_Naming.{HasPrefixes}
use Rattle.fab_netlist.specs.Cycles.{HasNoCycle}
use Rattle.fab_netlist.specs.Packing.{packed}
use Rattle.fab_netlist.specs.Resets.{netlist_with}
use Rattle.fab_implementation.specs.OnFabric.{IsOnFabric}
use Rattle.fab_implementation.specs.Plain.{PlainImplementation}
use Rattle.fab_legal.specs.Legal.{IsLegal}
use Rattle.fab_designs.specs.Designs.{PlainDesign}
use Rattle.fab_outputs.specs.Storing.{plain_output}
use Rattle.fab_flow.specs.Assembling.{Fits, IsAssembly, RefusesImplementation}
use Rattle.fab_flow.specs.Resetting.{HasReset, LacksReset}
use Rattle.fab_flow.proofs.ResetPorts.{seen}
use Rattle.fab_flow.proofs.Assembled.{reset_refused, used_refused}
use Rattle.fab_flow.proofs.assembling.reset_assembly.Goals as goal

pub packed_assembly-requires-clause-no_cycle : goal.packed_assembly-requires-clause-no_cycle
packed_assembly-requires-clause-no_cycle c =
    c.in_ok-take_reset.ensures.acyclic (subst (λ (d : PlainDesign). HasNoCycle d.netlist) (sym c.design.view_is) c.requires.no_cycle)

pub packed_assembly-requires-clause-on_fabric : goal.packed_assembly-requires-clause-on_fabric
packed_assembly-requires-clause-on_fabric c =
    subst (λ (d : PlainDesign). IsOnFabric d.fabric c.args.implementation) (sym c.design.view_is) c.requires.on_fabric

pub returns-in_err-take_reset-clause-refused : goal.returns-in_err-take_reset-clause-refused
returns-in_err-take_reset-clause-refused c =
    let port_is = c.as_ref.ensures.value ∙ ap (λ (i : PlainImplementation). i.reset) c.implementation.view_is in
    let residual = err_from_is_err_and c.from_residual.result c.from_residual.ensures.1 in
    let fault = c.in_err-take_reset.field-0.0 in
    let port = c.args.implementation.reset in
    rw (residual.1, residual.2)
    (reset_refused c.args.design c.args.implementation fault
    (subst (λ (d : PlainDesign). (fault ≡ faults.Memory) ⊎ LacksReset port d.netlist fault) c.design.view_is
    (subst (λ (p : Option (List ℕ)). (fault ≡ faults.Memory) ⊎ LacksReset p c.design.inside.netlist fault) port_is
    c.in_err-take_reset.ensures.refused)))

-- the netlist took the port
pub returns-clause-resets : goal.returns-clause-resets
returns-clause-resets c =
    let port_is = c.as_ref.ensures.value ∙ ap (λ (i : PlainImplementation). i.reset) c.implementation.view_is in
    let port = c.args.implementation.reset in
    on_ok_weaker c.packed_assembly.result (λ made. subst (λ (d : PlainDesign). HasReset port d.netlist) c.design.view_is
    (subst (λ (p : Option (List ℕ)). HasReset p c.design.inside.netlist) port_is c.in_ok-take_reset.ensures.has)) c.packed_assembly.ensures.fits

pub returns-clause-fits : goal.returns-clause-fits
returns-clause-fits c =
    let port_is = c.as_ref.ensures.value ∙ ap (λ (i : PlainImplementation). i.reset) c.implementation.view_is in
    let inside : PlainDesign = record { fabric = c.design.inside.fabric; netlist = c.design.inside.netlist; fixed = c.design.inside.fixed } in
    let set = c.in_ok-take_reset.ensures.set ∙ ap (λ (p : Option (List ℕ)). netlist_with p c.design.inside.netlist) port_is in
    on_ok_weaker c.packed_assembly.result (seen (λ d. Fits d.fabric d.netlist) c.args.implementation.reset inside c.args.design _ c.design.view_is set)
    c.packed_assembly.ensures.fits

pub returns-clause-legal : goal.returns-clause-legal
returns-clause-legal c =
    let port_is = c.as_ref.ensures.value ∙ ap (λ (i : PlainImplementation). i.reset) c.implementation.view_is in
    let inside : PlainDesign = record { fabric = c.design.inside.fabric; netlist = c.design.inside.netlist; fixed = c.design.inside.fixed } in
    let set = c.in_ok-take_reset.ensures.set ∙ ap (λ (p : Option (List ℕ)). netlist_with p c.design.inside.netlist) port_is in
    on_ok_weaker c.packed_assembly.result
    (seen (λ d. IsLegal d.fabric (packed d.netlist) d.fixed c.args.implementation) c.args.implementation.reset inside c.args.design _ c.design.view_is set)
    c.packed_assembly.ensures.legal

pub returns-clause-made : goal.returns-clause-made
returns-clause-made c =
    let port_is = c.as_ref.ensures.value ∙ ap (λ (i : PlainImplementation). i.reset) c.implementation.view_is in
    let inside : PlainDesign = record { fabric = c.design.inside.fabric; netlist = c.design.inside.netlist; fixed = c.design.inside.fixed } in
    let set = c.in_ok-take_reset.ensures.set ∙ ap (λ (p : Option (List ℕ)). netlist_with p c.design.inside.netlist) port_is in
    IfOk-weaker c.packed_assembly.result _ _
    (λ outputs. seen (λ d. All IsNamed d.fabric.types → All HasPrefixes d.fabric.types
    → IsAssembly d.fabric d.netlist d.netlist c.args.implementation c.args.base.now (map plain_output outputs.items)) c.args.implementation.reset inside c.args.design _
    c.design.view_is set) c.packed_assembly.ensures.made

pub returns-clause-refused : goal.returns-clause-refused
returns-clause-refused c =
    let port_is = c.as_ref.ensures.value ∙ ap (λ (i : PlainImplementation). i.reset) c.implementation.view_is in
    let inside : PlainDesign = record { fabric = c.design.inside.fabric; netlist = c.design.inside.netlist; fixed = c.design.inside.fixed } in
    let port = c.args.implementation.reset in
    let set = c.in_ok-take_reset.ensures.set ∙ ap (λ (p : Option (List ℕ)). netlist_with p c.design.inside.netlist) port_is in
    let has : HasReset port c.args.design.netlist = subst (λ (d : PlainDesign). HasReset port d.netlist) c.design.view_is
    (subst (λ (p : Option (List ℕ)). HasReset p c.design.inside.netlist) port_is c.in_ok-take_reset.ensures.has) in
    IfErr-weaker c.packed_assembly.result _ _
    (λ fault is. used_refused c.args.design c.args.implementation fault has
    (seen (λ d. (fault ≡ faults.Memory) ⊎ RefusesImplementation d.fabric d.netlist d.fixed c.args.implementation fault) port inside c.args.design _ c.design.view_is
    set is)) c.packed_assembly.ensures.refused
