use Rattle.std.proofs.Common.{◌≡◌, ◌++◌, map}
use Rattle.fab_model.specs.Tiles.{counted}
use Rattle.fab_model.specs.Wires.{pin_of}
use Rattle.fab_fabric.specs.inner.Index.{plain_wire}
use Rattle.fab_fabric.proofs.index.push_pins.Given as goal

abbrev pub invariant-loop-pin : goal.invariant-loop-pin
invariant-loop-pin l = map plain_wire l.wires.items ≡ map plain_wire l.fn.wires.items ++ counted l.pin (pin_of l.bel)
