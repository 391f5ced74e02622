use Rattle.std.proofs.Common.{◌≡◌, ◌+◌, ◌-◌, length, take, min}
use Rattle.fab_lines.specs.Numbers.{number_of}
use Rattle.fab_tables.proofs.ranges.lead.Given as goal

abbrev pub invariant-loop-place : goal.invariant-loop-place
invariant-loop-place l = l.lead ≡ min (number_of (take (l.place - (l.places - length l.first)) l.first) + 1 - number_of (take (l.place - (l.places - length l.second)) l.second)) 33
