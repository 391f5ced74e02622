use Rattle.std.proofs.Common.{take}
use Rattle.fab_timing.specs.inner.Adding.{Adds, AddedBy}
use Rattle.fab_timing.specs.inner.Passes.{IsListed, IsPinOf}
use Rattle.fab_timing.proofs.ends.put_pads.Given as goal

abbrev pub invariant-loop-site : goal.invariant-loop-site
invariant-loop-site l = Adds (AddedBy (IsPinOf l.fabric l.pin l.units) (take l.site-index l.pads)) (IsListed l.fn.pins.items) (IsListed l.pins.items)
