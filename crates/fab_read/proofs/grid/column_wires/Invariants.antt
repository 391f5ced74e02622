use Rattle.std.proofs.Common.{◌≡◌}
use Rattle.fab_fabric.specs.Sums.{sum_to}
use Rattle.fab_fabric.specs.Fabric.{fabric_of, wires_at}
use Rattle.fab_read.proofs.grid.column_wires.Given as goal

abbrev pub invariant-loop-y : goal.invariant-loop-y
invariant-loop-y l = l.wires ≡ sum_to l.y (wires_at (fabric_of l.types l.columns l.grid) l.x)
