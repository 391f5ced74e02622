use Rattle.std.proofs.Common.{◌≡◌, sym, subst}
use Rattle.fab_netlist.specs.Packed.{PlainPacked}
use Rattle.fab_netlist.specs.Packing.{packed}
use Rattle.fab_netlist.specs.WellMade.{IsWellMade}
use Rattle.fab_implementation.specs.OnFabric.{IsOnFabric}
use Rattle.fab_legal.specs.Legal.{IsLegal}
use Rattle.fab_timing.specs.Text.{timing_text}
use Rattle.fab_timing.specs.Walks.{IsLongest}
use Rattle.fab_designs.specs.Designs.{PlainDesign}
use Rattle.fab_flow.proofs.timing.walk_text.Goals as goal

pub longest-requires-clause-packs : goal.longest-requires-clause-packs
longest-requires-clause-packs c = (
  c.args.design.now.netlist,
  subst (λ (d : PlainDesign). IsWellMade d.netlist) c.design.view_is c.is_well_made.ensures,
  c.requires.no_cycle,
  c.requires.packed,
)

pub longest-requires-clause-on_fabric : goal.longest-requires-clause-on_fabric
longest-requires-clause-on_fabric c = subst (λ (d : PlainDesign). IsOnFabric d.fabric c.args.legal.now) (sym c.design.view_is) c.requires.on_fabric

pub longest-requires-clause-legal : goal.longest-requires-clause-legal
longest-requires-clause-legal c =
    let design = c.args.design.now in
    let there = subst (λ (d : PlainDesign). IsLegal d.fabric (packed design.netlist) design.fixed c.args.legal.now) (sym c.design.view_is) c.requires.legal in
    (design.fixed, subst (λ (p : PlainPacked). IsLegal c.design.inside.fabric p design.fixed c.args.legal.now) (sym c.requires.packed) there)

pub returns-clause-text : goal.returns-clause-text
returns-clause-text c =
    let path = c.in_ok-path.path in
    let text = c.in_ok-print_timing.field-0 in
    let netlist = c.args.design.now.netlist in
    let longest = subst (λ (p : PlainPacked). IsLongest c.design.inside.fabric p c.args.legal.now path) c.requires.packed c.in_ok-path.ensures.longest in (
      path,
      subst (λ (d : PlainDesign). IsLongest d.fabric (packed netlist) c.args.legal.now path) c.design.view_is longest,
      subst (λ (d : PlainDesign). text.items ≡ timing_text d.fabric path) c.design.view_is c.in_ok-print_timing.ensures,
    )
