use Rattle.fab_design_examples.proofs.legal.packed_design.Goals as goal

-- packing gave this design
pub returns : goal.returns
returns c = c.packed_is_well_made.ensures c.args.netlist.now 1 2 c.in_ok-packed.packed c.is_well_made.ensures c.in_ok-packed.ensures
