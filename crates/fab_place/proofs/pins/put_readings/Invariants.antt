use Rattle.std.proofs.Common.{◌≡◌, ◌++◌, take}
use Rattle.fab_place.specs.Pins.{reading_pins}
use Rattle.fab_place.proofs.pins.put_readings.Given as goal

abbrev pub invariant-loop-item : goal.invariant-loop-item
invariant-loop-item l = l.made.items ≡ l.fn.made.items ++ reading_pins l.inputs (take l.item l.cells)
