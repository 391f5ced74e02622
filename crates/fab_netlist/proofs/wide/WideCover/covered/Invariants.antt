use Rattle.std.proofs.Common.{◌≡◌, take}
use Rattle.fab_netlist.proofs.Rows.{rows_bits}
use Rattle.fab_netlist.proofs.wide.WideCover.covered.Given as goal

abbrev pub invariant-loop-cube : goal.invariant-loop-cube
invariant-loop-cube l = l.covered ≡ rows_bits (take l.cube-index l.self.rows) l.place
