use Rattle.std.proofs.Common.{◌≡◌, ◌++◌, ◌≤◌, map, slice_range}
use Rattle.fab_kinds.specs.Pins.{pin_names}
use Rattle.fab_meaning.specs.Ports.{scalar}
use Rattle.fab_prim.proofs.ports.push_pins.Given as goal

-- the ports so far are those of the pins so far
abbrev pub invariant-loop-pin : goal.invariant-loop-pin
invariant-loop-pin l = record {
  least : l.from ≤ l.pin;
  ports : l.ports.items ≡ l.initial.ports.items ++ map (scalar l.input) (slice_range (pin_names l.kind) l.from l.pin);
}
