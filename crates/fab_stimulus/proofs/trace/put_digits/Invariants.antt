use Rattle.std.proofs.Common.{◌≡◌, ◌++◌, map, take}
use Rattle.fab_stimulus.specs.Traces.{digit}
use Rattle.fab_stimulus.proofs.trace.put_digits.Given as goal

abbrev pub invariant-loop-value : goal.invariant-loop-value
invariant-loop-value l = l.out.items ≡ l.fn.out.items ++ map digit (take l.value-index l.values)
