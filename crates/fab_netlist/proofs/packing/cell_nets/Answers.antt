use Rattle.std.proofs.Common.{arith, length, refl}
use Rattle.fab_netlist.proofs.Stepping.{cover_outputs_below, latch_inputs_below}
use Rattle.fab_netlist.proofs.packing.cell_nets.Goals as goal

pub put_cover_nets-requires-clause-below : goal.put_cover_nets-requires-clause-below
put_cover_nets-requires-clause-below c = cover_outputs_below c.args.netlist.now c.requires.wired c.args.netlist.now.covers (length c.args.netlist.now.nets) refl (omega arith)

pub put_latch_nets-requires-clause-below : goal.put_latch_nets-requires-clause-below
put_latch_nets-requires-clause-below c = latch_inputs_below c.args.netlist.now c.requires.wired c.args.netlist.now.latches (length c.args.netlist.now.nets) refl (omega arith)
