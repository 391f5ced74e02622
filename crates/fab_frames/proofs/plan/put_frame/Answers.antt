use Rattle.std.proofs.Common.{refl, ap}
use Rattle.fab_frames.specs.Stream.{fixed, of_row}
use Rattle.fab_frames.proofs.Parts.{address_put, row_put}
use Rattle.fab_frames.proofs.plan.put_frame.Goals as goal

pub loop-y-init : goal.loop-y-init
loop-y-init c = address_put _ _ _ _ (λ y. of_row c.args.x y c.args.frame) c.in_ok-push.ensures.items (ap fixed c.address_word.ensures)

pub loop-y-preserved : goal.loop-y-preserved
loop-y-preserved c = row_put _ _ _ _ _ c.loop-y.y (λ y. of_row c.args.x y c.args.frame) c.loop-y.invariant c.in_ok-push-2.ensures.items refl
