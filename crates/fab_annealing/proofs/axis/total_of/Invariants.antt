use Rattle.std.proofs.Common.{◌≡◌, sum_by, take}
use Rattle.fab_annealing.specs.Measured.{width}
use Rattle.fab_annealing.proofs.axis.total_of.Given as goal

abbrev pub invariant-loop-span : goal.invariant-loop-span
invariant-loop-span l = l.total ≡ sum_by width (take l.span-index l.spans)
