use Rattle.std.proofs.Common.{◌≡◌, map, take}
use Rattle.fab_systems_laws.specs.Ternary.{known}
use Rattle.fab_ternary.specs.Terns.{plain_tern}
use Rattle.fab_simulate_command.proofs.ordered.known_terns.Given as goal

abbrev pub invariant-loop-bit : goal.invariant-loop-bit
invariant-loop-bit l = map plain_tern l.terns.items ≡ map known (take l.bit-index l.bits)
