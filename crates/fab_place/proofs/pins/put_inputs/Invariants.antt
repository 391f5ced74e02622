use Rattle.std.proofs.Common.{◌≡◌, ◌++◌}
use Rattle.fab_place.specs.Pins.{input_pins}
use Rattle.fab_place.proofs.pins.put_inputs.Given as goal

abbrev pub invariant-loop-net : goal.invariant-loop-net
invariant-loop-net l = l.made.items ≡ l.fn.made.items ++ input_pins l.net l.cells
