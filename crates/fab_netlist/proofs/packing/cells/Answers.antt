use Rattle.std.proofs.Common.{arith, length, refl}
use Rattle.fab_netlist.proofs.Stepping.{cover_inputs_below, cover_outputs_below, latch_inputs_below}
use Rattle.fab_netlist.proofs.packing.cells.Goals as goal

pub put_cover_cells-requires-clause-inputs : goal.put_cover_cells-requires-clause-inputs
put_cover_cells-requires-clause-inputs c = cover_inputs_below c.args.netlist.now c.requires.wired c.args.netlist.now.covers (length c.args.netlist.now.nets) refl (omega arith)

pub put_cover_cells-requires-clause-outputs : goal.put_cover_cells-requires-clause-outputs
put_cover_cells-requires-clause-outputs c = cover_outputs_below c.args.netlist.now c.requires.wired c.args.netlist.now.covers (length c.args.netlist.now.nets) refl (omega arith)

pub put_latch_cells-requires-clause-below : goal.put_latch_cells-requires-clause-below
put_latch_cells-requires-clause-below c = latch_inputs_below c.args.netlist.now c.requires.wired c.args.netlist.now.latches (length c.args.netlist.now.nets) refl (omega arith)
