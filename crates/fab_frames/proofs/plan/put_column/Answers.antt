use Rattle.fab_frames.specs.Stream.{frame_parts}
use Rattle.fab_frames.proofs.Parts.{no_piece_put, piece_put}
use Rattle.fab_frames.proofs.plan.put_column.Goals as goal

pub loop-frame-init : goal.loop-frame-init
loop-frame-init c = no_piece_put c.args.parts.now.items (frame_parts c.args.fabric.now c.args.x)

pub loop-frame-preserved : goal.loop-frame-preserved
loop-frame-preserved c =
    piece_put c.loop-frame.parts.items c.put_frame.new.parts.items _ (frame_parts c.args.fabric.now c.args.x) c.loop-frame.frame c.loop-frame.invariant c.in_ok-put_frame.ensures
