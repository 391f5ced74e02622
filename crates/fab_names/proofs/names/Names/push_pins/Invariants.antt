use Rattle.std.proofs.Common.{◌≡◌, ◌++◌}
use Rattle.fab_names.proofs.names.Names.push_pins.Given as goal

abbrev pub invariant-loop-pin : goal.invariant-loop-pin
invariant-loop-pin l = (l.self-inside.pins.items ≡ l.initial.self-inside.pins.items ++ l.yielded) × (l.self-inside.families ≡ l.initial.self-inside.families)
