use Rattle.std.proofs.Common.{sym, subst}
use Rattle.fab_fabric.specs.Fabric.{IsFabric}
use Rattle.fab_fabric.specs.Bits.{plain_bits}
use Rattle.fab_netlist.specs.Packing.{packed}
use Rattle.fab_state.specs.Spelled.{HasLetters}
use Rattle.fab_designs.specs.Designs.{PlainDesign}
use Rattle.fab_flow.proofs.Assembled.{assembly_is, state_has_letters}
use Rattle.fab_flow.proofs.assembling.assembly.Goals as goal

pub outputs_of-requires : goal.outputs_of-requires
outputs_of-requires c =
    let design = c.args.design.now in
    let is_fabric : IsFabric design.fabric = subst (λ (d : PlainDesign). IsFabric d.fabric) c.design.view_is c.is_well_made.ensures.is_fabric in
    let letters = state_has_letters design.fabric (packed design.netlist) c.args.implementation is_fabric c.requires.on_fabric in
    subst HasLetters (sym c.in_ok-assembled.ensures.state) letters

pub returns-clause-made : goal.returns-clause-made
returns-clause-made c = λ named prefixed.
    let design = c.args.design.now in
    let made = c.in_ok-assembled.assembled in
    let of = c.in_ok-assembled.ensures in
    assembly_is design.fabric design.netlist c.args.implementation c.args.base.now _ made.features.items (plain_bits made.bits) made.words.items made.state
    c.in_ok-outputs_of.ensures.are of.features of.configures (of.map named prefixed) of.words of.state of.runs of.settles
