use Rattle.std.proofs.Common.{◌≡◌, ◌+◌, ◌-◌, ◌*◌, min, take, length}
use Rattle.fab_lines.specs.Numbers.{number_of}
use Rattle.fab_names.proofs.below.is_below.Given as goal

abbrev pub invariant-loop-place : goal.invariant-loop-place
invariant-loop-place l =
    l.lead ≡ min (l.factor * number_of (take (l.place - (l.width - length l.count)) l.count) + 31 - number_of (take (l.place - (l.width - length l.digits)) l.digits)) 32
