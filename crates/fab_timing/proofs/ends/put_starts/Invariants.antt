use Rattle.std.proofs.Common.{take}
use Rattle.fab_timing.specs.inner.Adding.{Adds, AddedBy}
use Rattle.fab_timing.specs.inner.Passes.{IsLatchStart, IsListed, OfLine}
use Rattle.fab_timing.proofs.ends.put_starts.Given as goal

abbrev pub invariant-loop-number : goal.invariant-loop-number
invariant-loop-number l = Adds (AddedBy (OfLine l.packed (IsLatchStart l.fabric)) (take l.number-index l.lines)) (IsListed l.fn.starts.items) (IsListed l.starts.items)
