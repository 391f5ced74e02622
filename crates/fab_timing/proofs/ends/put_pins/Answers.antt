use Rattle.std.proofs.Common.{◌≡◌, ℕ, arith, subst}
use Rattle.fab_timing.specs.inner.Adding.{Adds, AddedBelow}
use Rattle.fab_timing.specs.inner.Passes.{IsListed, IsPin}
use Rattle.fab_timing.proofs.Added.{number_added}
use Rattle.fab_timing.proofs.ends.put_pins.Goals as goal

pub loop-pin-preserved : goal.loop-pin-preserved
loop-pin-preserved c =
    number_added (IsPin c.args.fabric.now c.args.site c.args.units) c.loop-pin.pin (IsListed c.args.ends.now.items) (IsListed c.loop-pin.ends.items) (IsListed c.put_pin.new.pins.items)
    c.loop-pin.invariant c.in_ok-put_pin.ensures

pub returns : goal.returns
returns c =
    let all : c.loop-pin.pin ≡ c.args.count = omega (arith, c.loop-pin-test.false, c.loop-pin.auto.pin-end) in
    subst (λ (n : ℕ). Adds (AddedBelow (IsPin c.args.fabric.now c.args.site c.args.units) n) (IsListed c.args.ends.now.items) (IsListed c.loop-pin.ends.items)) all c.loop-pin.invariant
