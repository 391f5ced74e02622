use Rattle.std.proofs.Common.{◌≡◌, ◌++◌, take}
use Rattle.fab_sample.specs.Lines.{text}
use Rattle.fab_sample.specs.Netlists.{all_latch_lines}
use Rattle.fab_sample.proofs.netlist.put_latches.Given as goal

abbrev pub invariant-loop-number : goal.invariant-loop-number
invariant-loop-number l = l.out.items ≡ l.fn.out.items ++ text (all_latch_lines (take l.number l.latches))
