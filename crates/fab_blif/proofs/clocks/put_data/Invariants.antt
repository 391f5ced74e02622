use Rattle.std.proofs.Common.{◌≡◌, ◌++◌, take}
use Rattle.fab_blif.specs.Clocks.{data_faults}
use Rattle.fab_blif.specs.Judged.{is_among}
use Rattle.fab_blif.proofs.clocks.put_data.Given as goal

abbrev pub invariant-loop-used : goal.invariant-loop-used
invariant-loop-used l = l.faults.items ≡ l.fn.faults.items ++ data_faults (is_among l.clocks.keys) (take l.used-index l.uses)
