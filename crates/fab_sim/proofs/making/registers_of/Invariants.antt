use Rattle.std.proofs.Common.{◌≡◌, length}
use Rattle.fab_sim.proofs.Marks.{StoredSoFar}
use Rattle.fab_sim.proofs.making.registers_of.Given as goal

abbrev pub invariant-loop-point : goal.invariant-loop-point
invariant-loop-point l = record {
  long : length l.registers.items ≡ l.point;
  marks : StoredSoFar l.network.drives.items l.loads l.point l.registers.items;
}
