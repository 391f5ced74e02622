use Rattle.fab_frames.specs.Positions.{bit_place}
use Rattle.fab_frames.proofs.Lists.{none_behind, one_behind}
use Rattle.fab_frames.proofs.positions.push_place.Goals as goal

pub loop-bit-init : goal.loop-bit-init
loop-bit-init c = none_behind c.args.places.now.items (bit_place c.args.x c.args.y)

pub loop-bit-preserved : goal.loop-bit-preserved
loop-bit-preserved c =
    one_behind c.args.places.now.items c.loop-bit.places.items c.push.new.self.items c.loop-bit.bit (bit_place c.args.x c.args.y) c.loop-bit.invariant c.in_ok-push.ensures.items
