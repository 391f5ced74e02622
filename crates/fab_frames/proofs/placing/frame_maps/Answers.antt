use Rattle.fab_frames.proofs.Mapped.{one_map_more, all_maps}
use Rattle.fab_frames.proofs.placing.frame_maps.Goals as goal

pub loop-tile-preserved : goal.loop-tile-preserved
loop-tile-preserved c =
    one_map_more c.types-tile-items.result.now c.loop-tile.maps.items c.push.new.self.items c.loop-tile.tile-index c.tile-item.result c.in_ok-of.field-0
    c.loop-tile-test.true c.tile-item.is c.in_ok-push.ensures.items c.in_ok-of.ensures c.loop-tile.invariant

pub returns : goal.returns
returns c =
    all_maps c.args.fabric.now c.types-tile-items.result.now c.loop-tile.maps.items c.loop-tile.tile-index
    c.types-tile-items.ensures.is_fabric c.types-tile-items.ensures.types c.loop-tile-test.false c.loop-tile.invariant
