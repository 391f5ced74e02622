use Rattle.std.proofs.Common.{◌≡◌, length}
use Rattle.fab_sim.proofs.Marks.{MarkedSoFar}
use Rattle.fab_sim.proofs.stepping.given_points.Given as goal

abbrev pub invariant-loop-point : goal.invariant-loop-point
invariant-loop-point l = record {
  long : length l.free.items ≡ l.point;
  marks : MarkedSoFar l.network.drives.items l.loads l.point l.free.items;
}
