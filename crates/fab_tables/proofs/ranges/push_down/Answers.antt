use Rattle.std.proofs.Common.{ℕ, ◌+◌, ◌-◌, refl}
use Rattle.fab_tables.proofs.Runs.{counted_none, counted_push}
use Rattle.fab_tables.proofs.ranges.push_down.Goals as goal

pub loop-step-init : goal.loop-step-init
loop-step-init c = counted_none c.args.bits.now.items (λ (step : ℕ). c.args.first - step)

pub loop-step-preserved : goal.loop-step-preserved
loop-step-preserved c =
    counted_push (λ (step : ℕ). c.args.first - step) c.args.bits.now.items c.loop-step.bits.items c.push.new.self.items c.loop-step.step _ c.loop-step.invariant c.in_ok-push.ensures.items refl
