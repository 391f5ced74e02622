use Rattle.std.proofs.Common.{◌≡◌, take}
use Rattle.fab_lines.specs.Numbers.{capped, number_of}
use Rattle.fab_lines.proofs.numbers.capped_value.Given as goal

abbrev pub invariant-loop-digit : goal.invariant-loop-digit
invariant-loop-digit l = l.value ≡ capped (number_of (take l.digit-index l.digits))
