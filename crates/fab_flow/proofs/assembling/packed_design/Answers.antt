use Rattle.std.proofs.Common.{◌≡◌, subst, IfOk}
use Rattle.fab_netlist.specs.Packing.{packed}
use Rattle.fab_designs.specs.Designs.{PlainDesign}
use Rattle.fab_flow.proofs.Assembled.{packed_given}
use Rattle.fab_flow.proofs.assembling.packed_design.Goals as goal

pub returns-clause-packed : goal.returns-clause-packed
returns-clause-packed c =
    let given = packed_given c.design.inside.netlist c.sites-luts.result c.sites-pads.result c.pack.result c.pack.ensures in
    subst (λ (d : PlainDesign). IfOk c.pack.result (λ p. p ≡ packed d.netlist)) c.design.view_is given
