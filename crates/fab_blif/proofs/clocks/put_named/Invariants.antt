use Rattle.std.proofs.Common.{◌≡◌, ◌++◌, map, take}
use Rattle.fab_blif.specs.Clocks.{named_faults}
use Rattle.fab_blif.specs.Judged.{is_among}
use Rattle.fab_blif.specs.inner.Walk.{plain_clock, plain_nets}
use Rattle.fab_blif.proofs.clocks.put_named.Given as goal

abbrev pub invariant-loop-clock : goal.invariant-loop-clock
invariant-loop-clock l = l.faults.items
    ≡ l.fn.faults.items ++ named_faults (is_among l.clocking.driven.keys) (is_among l.clocking.clocks.keys) l.clocking.first (plain_nets l.nets.keys) (map plain_clock (take l.clock-index l.clocks))
