use Rattle.std.proofs.Common.{◌≡◌, ◌++◌, take}
use Rattle.fab_blif.specs.Judged.{tagged}
use Rattle.fab_blif.proofs.judge.put_drivers.Given as goal

abbrev pub invariant-loop-used : goal.invariant-loop-used
invariant-loop-used l = l.drivers.items ≡ l.fn.drivers.items ++ tagged l.is_port (take l.used-index l.uses)
