use Rattle.std.proofs.Common.{◌≡◌, ◌++◌, map, take}
use Rattle.fab_kinds.specs.Pins.{pin_names}
use Rattle.fab_blocks.proofs.bel.pins_of.Given as goal

abbrev pub invariant-loop-pin : goal.invariant-loop-pin
invariant-loop-pin l = l.pins.items ≡ map (λ pin. l.prefix ++ pin) (take l.pin (pin_names l.kind))
