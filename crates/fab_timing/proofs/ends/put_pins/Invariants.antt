use Rattle.fab_timing.specs.inner.Adding.{Adds, AddedBelow}
use Rattle.fab_timing.specs.inner.Passes.{IsListed, IsPin}
use Rattle.fab_timing.proofs.ends.put_pins.Given as goal

abbrev pub invariant-loop-pin : goal.invariant-loop-pin
invariant-loop-pin l = Adds (AddedBelow (IsPin l.fabric l.site l.units) l.pin) (IsListed l.fn.ends.items) (IsListed l.ends.items)
