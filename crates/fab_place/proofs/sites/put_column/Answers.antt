use Rattle.fab_model.specs.Grid.{tile_at}
use Rattle.fab_fabric.specs.Sites.{tile_sites}
use Rattle.fab_place.proofs.Listed.{behind_none, behind_more}
use Rattle.fab_place.proofs.sites.put_column.Goals as goal

pub loop-y-init : goal.loop-y-init
loop-y-init c = behind_none c.args.sites.now.items (λ y. tile_sites c.args.kind c.args.x y (tile_at c.args.fabric.now c.args.x y))

pub loop-y-preserved : goal.loop-y-preserved
loop-y-preserved c =
    behind_more c.args.sites.now.items c.loop-y.sites.items c.put_tile.new.sites.items (λ y. tile_sites c.args.kind c.args.x y (tile_at c.args.fabric.now c.args.x y)) c.loop-y.y c.loop-y.invariant c.in_ok-put_tile.ensures
