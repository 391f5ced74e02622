use Rattle.std.proofs.Common.{◌≡◌, ◌++◌, take}
use Rattle.std.specs.List.{flat_map}
use Rattle.fab_place.specs.Pins.{pin_on}
use Rattle.fab_place.proofs.pins.put_pins.Given as goal

abbrev pub invariant-loop-net : goal.invariant-loop-net
invariant-loop-net l = l.made.items ≡ l.fn.made.items ++ flat_map (pin_on l.inputs l.item) (take l.net-index l.nets)
