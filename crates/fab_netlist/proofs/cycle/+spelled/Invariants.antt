use Rattle.std.proofs.Common.{length}
use Rattle.fab_netlist.proofs.cycle.«+spelled».Given as goal

abbrev pub decreases-spelled : goal.decreases-spelled
decreases-spelled a = length a.nets.now
