use Rattle.std.proofs.Common.{◌≡◌, ◌⊎◌, sym, subst}
use Rattle.fab_base.specs.declared.fault.Fault.{Fault}
use Rattle.fab_base.specs.declared.fault.Fault.TheVariants as faults
use Rattle.fab_netlist.specs.Packing.{packed}
use Rattle.fab_netlist.specs.WellMade.{IsWellMade}
use Rattle.fab_legal.specs.Broken.{Explains}
use Rattle.fab_legal.specs.WellMade.{IsWellMadePacked}
use Rattle.fab_legal.proofs.PackedMade.{packed_is_well_made}
use Rattle.fab_designs.specs.Designs.{PlainDesign}
use Rattle.fab_flow.specs.Assembling.{RefusesImplementation}
use Rattle.fab_flow.proofs.Assembled.{check_refused}
use Rattle.fab_flow.proofs.timing.checked.Goals as goal

pub check-requires-clause-made : goal.check-requires-clause-made
check-requires-clause-made c =
    let netlist = c.args.design.now.netlist in
    let made = subst (λ (d : PlainDesign). IsWellMade d.netlist) c.design.view_is c.is_well_made.ensures in
    subst IsWellMadePacked (sym c.requires.packed) (packed_is_well_made netlist _ _ (packed netlist) made c.requires.fits)

pub returns-in-Err-clause-refused : goal.returns-in-Err-clause-refused
returns-in-Err-clause-refused c =
    let design = c.args.design.now in
    subst (λ (f : Fault). (f ≡ faults.Memory) ⊎ RefusesImplementation design.fabric design.netlist design.fixed c.args.implementation f) (sym c.from.ensures)
    (check_refused design.fabric design.netlist design.fixed c.args.implementation c.args.packed.now c.in-Err.fault c.requires.packed c.requires.fits
    (subst (λ (d : PlainDesign). Explains d.fabric c.args.packed.now d.fixed c.args.implementation c.in-Err.fault) c.design.view_is c.in-Err.ensures.err))
