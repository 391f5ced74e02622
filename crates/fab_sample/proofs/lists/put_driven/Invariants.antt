use Rattle.std.proofs.Common.{◌≡◌, ◌++◌, take}
use Rattle.fab_sample.specs.Lines.{text}
use Rattle.fab_sample.specs.Lists.{driven_lines}
use Rattle.fab_sample.proofs.lists.put_driven.Given as goal

abbrev pub invariant-loop-wire : goal.invariant-loop-wire
invariant-loop-wire l = l.out.items ≡ l.fn.out.items ++ text (driven_lines (take l.wire-index l.wires))
