use Rattle.std.proofs.Common.{◌≡◌, take, reverse}
use Rattle.std.specs.List.{sum}
use Rattle.fab_sound.proofs.sizes.sum_of_first.Given as goal

abbrev pub invariant-loop-below : goal.invariant-loop-below
invariant-loop-below l = l.total ≡ sum (take l.below (reverse l.widths))
