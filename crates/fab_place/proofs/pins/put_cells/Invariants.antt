use Rattle.std.proofs.Common.{◌≡◌, ◌++◌}
use Rattle.fab_place.specs.Pins.{cell_pins}
use Rattle.fab_place.proofs.pins.put_cells.Given as goal

abbrev pub invariant-loop-item : goal.invariant-loop-item
invariant-loop-item l = l.made.items ≡ l.fn.made.items ++ cell_pins l.inputs l.item
