use Rattle.std.proofs.Common.{◌≡◌, ◌⊎◌, List, All, sym, subst}
use Rattle.fab_base.specs.declared.fault.Fault.{Fault}
use Rattle.fab_base.specs.declared.fault.Fault.TheVariants as faults
use Rattle.fab_syntax.specs.Plain.{PlainModule}
use Rattle.fab_assemble.specs.fab_fabric_text_defs_Texts.{IsFabricText}
use Rattle.fab_assemble.specs.fab_use_defs_Headline.{RunsDesign}
use Rattle.fab_assemble.specs.fab_settling_laws_Settling.{SettlesDesign}
use Rattle.fab_fabric.specs.Bits.{plain_bits}
use Rattle.fab_gen_tile.specs.Words.{IsNamed}
use Rattle.fab_assemble.specs.fab_features_Features.{IsBitMapOf}
use Rattle.fab_assemble.specs.fab_features_Naming.{HasPrefixes}
use Rattle.fab_legal.specs.Broken.{Explains}
use Rattle.fab_designs.specs.Designs.{PlainDesign}
use Rattle.fab_flow.specs.Assembling.{RefusesImplementation}
use Rattle.fab_flow.proofs.Assembled.{check_refused}
use Rattle.fab_flow.proofs.assembling.assembled.Goals as goal

pub returns-in-Ok-clause-runs : goal.returns-in-Ok-clause-runs
returns-in-Ok-clause-runs c =
    subst (λ (d : PlainDesign). (text : List PlainModule) → IsFabricText d.fabric text → RunsDesign d.fabric text d.netlist d.netlist c.args.implementation c.in-Ok.assembled.words.items c.in-Ok.assembled.state)
    c.design.view_is c.in-Ok.ensures.runs

pub returns-in-Ok-clause-settles : goal.returns-in-Ok-clause-settles
returns-in-Ok-clause-settles c =
    subst (λ (d : PlainDesign). (text : List PlainModule) → IsFabricText d.fabric text → SettlesDesign d.fabric text d.netlist d.netlist c.args.implementation c.in-Ok.assembled.words.items)
    c.design.view_is c.in-Ok.ensures.settles

pub returns-in-Ok-clause-map : goal.returns-in-Ok-clause-map
returns-in-Ok-clause-map c =
    subst (λ (d : PlainDesign). All IsNamed d.fabric.types → All HasPrefixes d.fabric.types → IsBitMapOf d.fabric c.in-Ok.assembled.features.items (plain_bits c.in-Ok.assembled.bits))
    c.design.view_is c.in-Ok.ensures.map

pub returns-in-Err-clause-refused : goal.returns-in-Err-clause-refused
returns-in-Err-clause-refused c =
    let design = c.args.design.now in
    subst (λ (f : Fault). (f ≡ faults.Memory) ⊎ RefusesImplementation design.fabric design.netlist design.fixed c.args.implementation f) (sym c.from.ensures)
    (check_refused design.fabric design.netlist design.fixed c.args.implementation c.args.packed.now c.in-Err.fault c.requires.packed c.requires.fits
    (subst (λ (d : PlainDesign). Explains d.fabric c.args.packed.now d.fixed c.args.implementation c.in-Err.fault) c.design.view_is c.in-Err.ensures.err))
