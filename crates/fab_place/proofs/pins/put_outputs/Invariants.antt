use Rattle.std.proofs.Common.{◌≡◌, ◌++◌, take}
use Rattle.fab_place.specs.Pins.{output_pins}
use Rattle.fab_place.proofs.pins.put_outputs.Given as goal

abbrev pub invariant-loop-number : goal.invariant-loop-number
invariant-loop-number l = l.made.items ≡ l.fn.made.items ++ output_pins l.inputs l.ports (take l.number l.outputs)
