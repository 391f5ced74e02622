use Rattle.fab_frames.specs.inner.Placing.{place_chain}
use Rattle.fab_frames.proofs.Lists.{no_piece_behind, one_piece_behind}
use Rattle.fab_frames.proofs.positions.push_column.Goals as goal

pub loop-y-init : goal.loop-y-init
loop-y-init c = no_piece_behind c.args.places.now.items (place_chain c.args.fabric.now c.args.x)

pub loop-y-preserved : goal.loop-y-preserved
loop-y-preserved c =
    one_piece_behind c.args.places.now.items c.loop-y.places.items c.push_place.new.places.items c.loop-y.y (place_chain c.args.fabric.now c.args.x) c.loop-y.invariant c.in_ok-push_place.ensures
