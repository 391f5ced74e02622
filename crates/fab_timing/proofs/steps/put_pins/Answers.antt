use Rattle.std.proofs.Common.{◌≡◌, ◌∙◌, ℕ, arith, refl, subst}
use Rattle.fab_fabric.specs.declared.wire.Wire.{Wire}
use Rattle.fab_timing.specs.inner.Adding.{Adds, AddedBelow}
use Rattle.fab_timing.specs.inner.Passes.{HasStep, IsFromPin, TimedStep}
use Rattle.fab_timing.proofs.Added.{none_below, number_added}
use Rattle.fab_timing.proofs.steps.put_pins.Goals as goal

pub loop-pin-init : goal.loop-pin-init
loop-pin-init c = record { len = refl; added = none_below (IsFromPin c.args.fabric.now c.args.site c.args.output) (HasStep c.args.before.now.items) }

pub loop-pin-preserved : goal.loop-pin-preserved
loop-pin-preserved c =
    let Was : TimedStep → Type 0 = HasStep c.loop-pin.before.items in
    let IsThere : TimedStep → Type 0 = HasStep c.put_step.new.before.items in
    record {
      len = c.in_ok-put_step.ensures.len ∙ c.loop-pin.invariant.len;
      added = number_added (IsFromPin c.args.fabric.now c.args.site c.args.output) c.loop-pin.pin (HasStep c.args.before.now.items) Was IsThere c.loop-pin.invariant.added
          (subst (λ (from : Wire). Adds (λ (step : TimedStep). step ≡ (from, c.args.output, 6)) Was IsThere) c.in_ok-from.ensures.wire c.in_ok-put_step.ensures.added);
    }

pub returns-clause-added : goal.returns-clause-added
returns-clause-added c =
    let all : c.loop-pin.pin ≡ c.args.count = omega (arith, c.loop-pin-test.false, c.loop-pin.auto.pin-end) in
    subst (λ (n : ℕ). Adds (AddedBelow (IsFromPin c.args.fabric.now c.args.site c.args.output) n) (HasStep c.args.before.now.items) (HasStep c.loop-pin.before.items)) all c.loop-pin.invariant.added
