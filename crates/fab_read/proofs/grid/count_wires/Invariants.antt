use Rattle.std.proofs.Common.{◌≡◌}
use Rattle.fab_fabric.specs.Sums.{sum_to}
use Rattle.fab_fabric.specs.Fabric.{fabric_of, column_wires}
use Rattle.fab_read.proofs.grid.count_wires.Given as goal

abbrev pub invariant-loop-x : goal.invariant-loop-x
invariant-loop-x l = l.wires ≡ sum_to l.x (column_wires (fabric_of l.types l.columns l.grid))
