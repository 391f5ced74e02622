use Rattle.std.proofs.Common.{take}
use Rattle.fab_place.proofs.Constrained.{AreNumbered}
use Rattle.fab_place.proofs.constraints.numbers_of.Given as goal

abbrev pub invariant-loop-number : goal.invariant-loop-number
invariant-loop-number l = AreNumbered (take l.number l.pads) l.numbers.entries
