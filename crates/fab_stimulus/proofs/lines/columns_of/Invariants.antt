use Rattle.std.proofs.Common.{◌≡◌, take}
use Rattle.fab_stimulus.specs.Stimuli.{columns_of, ports_of}
use Rattle.fab_stimulus.proofs.lines.columns_of.Given as goal

abbrev pub invariant-loop-port : goal.invariant-loop-port
invariant-loop-port l = l.columns.items ≡ columns_of (ports_of (take l.port-index l.pads)) l.names
