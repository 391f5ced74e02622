use Rattle.std.proofs.Common.{◌≡◌, take}
use Rattle.std.specs.List.{filter_map, enumerate_from}
use Rattle.fab_settling_laws.specs.fab_use_defs_Registers.{register_of}
use Rattle.fab_assemble.proofs.state.registers.Given as goal

abbrev pub invariant-loop-number : goal.invariant-loop-number
invariant-loop-number l = l.registers.items ≡ filter_map (λ at. register_of l.fn.implementation at.0 at.1) (enumerate_from 0 (take l.number l.cells))
