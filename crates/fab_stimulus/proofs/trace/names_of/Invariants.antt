use Rattle.std.proofs.Common.{◌≡◌, map, take}
use Rattle.fab_stimulus.specs.Stimuli.{ports_of}
use Rattle.fab_stimulus.proofs.trace.names_of.Given as goal

abbrev pub invariant-loop-port : goal.invariant-loop-port
invariant-loop-port l = map (λ w. w.now) l.names.items ≡ ports_of (take l.port-index l.pads)
