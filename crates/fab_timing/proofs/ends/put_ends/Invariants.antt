use Rattle.std.proofs.Common.{take}
use Rattle.fab_timing.specs.inner.Adding.{Adds, AddedBy}
use Rattle.fab_timing.specs.inner.Passes.{IsLatchEnd, IsListed, OfLine}
use Rattle.fab_timing.proofs.ends.put_ends.Given as goal

abbrev pub invariant-loop-number : goal.invariant-loop-number
invariant-loop-number l = Adds (AddedBy (OfLine l.packed (IsLatchEnd l.fabric)) (take l.number-index l.lines)) (IsListed l.fn.ends.items) (IsListed l.ends.items)
