use Rattle.std.proofs.Common.{◌≡◌, ◌++◌, take}
use Rattle.fab_place.specs.Pins.{reset_pins}
use Rattle.fab_place.proofs.pins.put_resets.Given as goal

abbrev pub invariant-loop-item : goal.invariant-loop-item
invariant-loop-item l = l.made.items ≡ l.fn.made.items ++ reset_pins l.inputs l.reset (take l.item l.cells)
