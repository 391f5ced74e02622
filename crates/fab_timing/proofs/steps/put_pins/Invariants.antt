use Rattle.std.proofs.Common.{◌≡◌, length}
use Rattle.fab_timing.specs.inner.Adding.{Adds, AddedBelow}
use Rattle.fab_timing.specs.inner.Passes.{HasStep, IsFromPin}
use Rattle.fab_timing.proofs.steps.put_pins.Given as goal

abbrev pub invariant-loop-pin : goal.invariant-loop-pin
invariant-loop-pin l = record {
  len : length l.before.items ≡ length l.fn.before.items;
  added : Adds (AddedBelow (IsFromPin l.fabric l.site l.output) l.pin) (HasStep l.fn.before.items) (HasStep l.before.items);
}
