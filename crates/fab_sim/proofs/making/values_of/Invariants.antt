use Rattle.std.proofs.Common.{◌≡◌, map, take}
use Rattle.fab_state.specs.Plain.{Register}
use Rattle.fab_sim.proofs.making.values_of.Given as goal

abbrev pub invariant-loop-value : goal.invariant-loop-value
invariant-loop-value l = l.values.items ≡ map (λ (register : Register). register.1) (take l.value-index l.ffs)
