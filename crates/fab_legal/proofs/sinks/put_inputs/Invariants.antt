use Rattle.std.proofs.Common.{◌≡◌, ◌++◌, take}
use Rattle.fab_legal.specs.Sinks.{input_sinks}
use Rattle.fab_legal.proofs.sinks.put_inputs.Given as goal

abbrev pub invariant-loop-pin : goal.invariant-loop-pin
invariant-loop-pin l = l.sinks.items ≡ l.fn.sinks.items ++ input_sinks l.fabric l.site 0 (take l.pin l.nets)
