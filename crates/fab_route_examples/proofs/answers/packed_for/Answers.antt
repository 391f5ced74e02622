use Rattle.fab_route_examples.proofs.answers.packed_for.Goals as goal

-- packing gave this design
pub returns : goal.returns
returns c = c.packed_is_well_made.ensures c.args.netlist.now c.args.luts c.args.pads c.in_ok-packed.packed c.is_well_made.ensures c.in_ok-packed.ensures
