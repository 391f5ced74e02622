use Rattle.std.proofs.Common.{take}
use Rattle.fab_place.proofs.Constrained.{AreKept}
use Rattle.fab_place.proofs.constraints.constraints_of.Given as goal

abbrev pub invariant-loop-pad : goal.invariant-loop-pad
invariant-loop-pad l = AreKept (take l.pad-index l.fixed) l.constraints.entries
