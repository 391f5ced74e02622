use Rattle.std.proofs.Common.{◌≡◌, take}
use Rattle.fab_stimulus.specs.Stimuli.{ports_of}
use Rattle.fab_stimulus.proofs.lines.ports_of.Given as goal

abbrev pub invariant-loop-port : goal.invariant-loop-port
invariant-loop-port l = l.ports ≡ ports_of (take l.port-index l.pads)
