use Rattle.std.proofs.Common.{◌≡◌, length, take}
use Rattle.fab_timing.specs.inner.Adding.{Adds, AddedBy}
use Rattle.fab_timing.specs.inner.Passes.{HasStep, IsCellStep, OfLine}
use Rattle.fab_timing.proofs.steps.put_cells.Given as goal

abbrev pub invariant-loop-number : goal.invariant-loop-number
invariant-loop-number l = record {
  len : length l.before.items ≡ length l.fn.before.items;
  added : Adds (AddedBy (OfLine l.packed (IsCellStep l.fabric)) (take l.number-index l.lines)) (HasStep l.fn.before.items) (HasStep l.before.items);
}
