use Rattle.std.proofs.Common.{◌∙◌, refl, arith, map}
use Rattle.fab_frames.specs.inner.Taking.{plain_part}
use Rattle.fab_frames.proofs.Parts.{none_put, waiting_put, all_waiting}
use Rattle.fab_frames.proofs.plan.put_waiting.Goals as goal

pub loop-place-init : goal.loop-place-init
loop-place-init c = none_put c.args.parts.now.items _ refl

pub loop-place-preserved : goal.loop-place-preserved
loop-place-preserved c = waiting_put _ _ _ _ c.loop-place._place c.loop-place.invariant c.in_ok-push.ensures.items refl

pub returns : goal.returns
returns c = c.loop-place.invariant ∙ all_waiting (map plain_part c.args.parts.now.items) c.loop-place._place (omega (arith, c.loop-place-test.false))
