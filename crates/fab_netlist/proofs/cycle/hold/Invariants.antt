use Rattle.std.proofs.Common.{◌≡◌, take, map, if◌then◌else◌}
use Rattle.fab_netlist.specs.Meaning.{first_value}
use Rattle.fab_netlist.specs.Plain.{bit_at}
use Rattle.fab_netlist.proofs.cycle.hold.Given as goal

abbrev pub invariant-loop-place : goal.invariant-loop-place
invariant-loop-place l = take l.place l.held ≡ take l.place (map (λ latch. if l.reset then first_value latch else bit_at l.values latch.input) l.latches)
