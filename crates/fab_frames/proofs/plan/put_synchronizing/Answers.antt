use Rattle.std.proofs.Common.{refl}
use Rattle.fab_frames.proofs.Parts.{synchronizing_put}
use Rattle.fab_frames.proofs.plan.put_synchronizing.Goals as goal

pub loop-word-preserved : goal.loop-word-preserved
loop-word-preserved c = record {
  words = refl;
  so_far = synchronizing_put c.loop-word.parts.items c.push.new.self.items _ _ c.loop-word.word-index 0 c.loop-word.invariant.so_far c.in_ok-push.ensures.items c.loop-word-test.true refl;
}
