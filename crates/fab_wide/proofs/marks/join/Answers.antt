use Rattle.std.proofs.Common.{arith}
use Rattle.fab_wide.proofs.Blocks.{joined_more}
use Rattle.fab_wide.proofs.marks.join.Goals as goal

pub loop-place-preserved : goal.loop-place-preserved
loop-place-preserved c =
    joined_more c.args.words.now c.args.block.now c.loop-place.words c.loop-place.place (omega arith) (omega arith) c.loop-place.invariant
