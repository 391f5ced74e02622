use Rattle.std.proofs.Common.{◌≡◌, ap, ◌∙◌, sym, subst}
use Rattle.std.proofs.lemmas.Result.{IfErr-weaker}
use Rattle.fab_netlist.specs.Packing.{packed}
use Rattle.fab_netlist.specs.Packed.{PlainPacked}
use Rattle.fab_map.specs.fab_place_Fixings.{AreFixed, Fits as HasRoom}
use Rattle.fab_state.specs.Constraints.{AreFixings, data_ports}
use Rattle.fab_designs.specs.Designs.{PlainDesign}
use Rattle.fab_flow.specs.Assembling.{Fits}
use Rattle.fab_flow.proofs.Mapped.{fixings_are_fixed, not_routed, room_of_packing}
use Rattle.fab_flow.proofs.mapping.mapped_design.Goals as goal

pub map_with_progress-requires-clause-fits : goal.map_with_progress-requires-clause-fits
map_with_progress-requires-clause-fits g c =
    let is : c.args.packed.now ≡ packed c.design.inside.netlist = c.requires.packed ∙ ap (λ (d : PlainDesign). packed d.netlist) (sym c.design.view_is) in
    let fits = subst (λ (d : PlainDesign). Fits d.fabric d.netlist) (sym c.design.view_is) c.requires.fits in
    subst (HasRoom c.design.inside.fabric) (sym is) (room_of_packing c.design.inside.fabric c.design.inside.netlist c.is_well_made.ensures fits)

pub map_with_progress-requires-clause-fixed : goal.map_with_progress-requires-clause-fixed
map_with_progress-requires-clause-fixed g c =
    let is : c.args.packed.now ≡ packed c.design.inside.netlist = c.requires.packed ∙ ap (λ (d : PlainDesign). packed d.netlist) (sym c.design.view_is) in
    let fixings = subst (λ (d : PlainDesign). AreFixings d.fabric (data_ports d.netlist) d.fixed) (sym c.design.view_is) c.requires.fixings in
    subst (λ (p : PlainPacked). AreFixed c.design.inside.fabric p c.design.inside.fixed) (sym is) (fixings_are_fixed c.design.inside.fabric c.design.inside.netlist c.design.inside.fixed fixings)

pub returns-clause-cause : goal.returns-clause-cause
returns-clause-cause g c =
    let inside : PlainDesign = record { fabric = c.design.inside.fabric; netlist = c.design.inside.netlist; fixed = c.design.inside.fixed } in
    IfErr-weaker c.map_with_progress.result _ _ (λ fault cause. not_routed c.args.design.now inside c.args.packed.now c.args.rounds fault c.design.view_is c.requires.packed c.requires.fits cause) c.map_with_progress.ensures.cause
