use Rattle.std.proofs.Common.{◌≡◌, map, take}
use Rattle.fab_blif.specs.Clocks.{clock_uses}
use Rattle.fab_blif.specs.inner.Walk.{plain_clock, plain_nets}
use Rattle.fab_blif.proofs.clocks.clock_uses.Given as goal

abbrev pub invariant-loop-clock : goal.invariant-loop-clock
invariant-loop-clock l = l.uses.items ≡ clock_uses (plain_nets l.nets.keys) (map plain_clock (take l.clock-index l.clocks))
