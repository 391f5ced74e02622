use Rattle.std.proofs.Common.{◌≡◌, take}
use Rattle.fab_place.specs.Standing.{output_lines}
use Rattle.fab_place.proofs.implementation.outputs_on.Given as goal

abbrev pub invariant-loop-number : goal.invariant-loop-number
invariant-loop-number l = l.lines.items ≡ output_lines l.sites l.numbers l.first (take l.number l.outputs)
