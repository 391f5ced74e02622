use Rattle.std.proofs.Common.{◌≡◌, ◌++◌, replicate}
use Rattle.fab_route.proofs.driven.mark.Given as goal

abbrev pub invariant-loop-wire : goal.invariant-loop-wire
invariant-loop-wire l = l.marks.items ≡ l.fn.marks.items ++ replicate l._wire l.driven
